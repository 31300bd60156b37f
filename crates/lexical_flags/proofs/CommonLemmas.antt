-- Lemmas that the bits that two words have in common are their `&`.
use Rattle.std.proofs.Common.{rules, ℤ, unsigned_abs, w32, SFits, of_z, to_z}
use Rattle.lexical_flags.proofs.Common.{ℕ, ◌≡◌, ◌<◌, ◌*◌, ◌/◌, ◌%◌, ◌^◌, ◌==◌, ◌&&◌, min, if◌then◌else◌, sum_by, bit_and, refl, ap, sym, ◌∙◌, arith}
use Rattle.lexical_flags.proofs.Common.{range_with_len, mod-eq_of_lt, mod-lt, lt_of_le_of_lt, and_mask, and_le_r, pow_pos, nat_tests, part}
use Rattle.std.proofs.lemmas.Int.{to_z-of_z}
use Rattle.std.proofs.lemmas.Nat.Bits.{bit_at_and}
use Rattle.lexical_flags.specs.Common.{common, common_at}
use Rattle.lexical_flags.proofs.ByteParts.{byte_by_mask}
use Rattle.lexical_flags.proofs.Masks.{and_all}

-- Two bits are both 1 if and only if the smaller one is 1.
both_bits : (a b unit : ℕ) → a < 2 → b < 2 → (if (a == 1) && (b == 1) then unit else 0) ≡ min a b * unit
both_bits a b unit la lb = grind (arith, nat_tests)

common_at-bit : (v w k : ℕ) → common_at v w k ≡ part (bit_and v w) k 1 * 2 ^ k
common_at-bit v w k = both_bits (part v k 1) (part w k 1) (2 ^ k) (mod-lt _ (pow_pos 1)) (mod-lt _ (pow_pos 1)) ∙ ap (λ b. b * 2 ^ k) (sym (bit_at_and v w k))

-- If the second of two words has 128 bits, then the bits that they have in common are their `&`.
pub common-bit_and : (v w : ℕ) → w < 2 ^ 128 → common v w ≡ bit_and v w
unfolding common
common-bit_and v w fits = (λ i. sum_by (λ k. common_at-bit v w k i) (range_with_len 0 128)) ∙ sym (and_all (λ k. k) (range_with_len 0 128) (bit_and v w) refl)
    ∙ and_mask (bit_and v w) 128 ∙ mod-eq_of_lt (lt_of_le_of_lt (and_le_r v w) fits)

-- The number that `radix_from_flags` reads first is the low 32 bits of the common bits, shifted right.
pub common_part : (v w : ℕ) (z : ℤ) → w < 2 ^ 128 → SFits w32 z → bit_and (bit_and v w / 2 ^ unsigned_abs (to_z w32 (of_z w32 z))) 0xFFFF_FFFF
    ≡ common v w / 2 ^ unsigned_abs z % 2 ^ 32
common_part v w z fits sfits = ap (λ s. bit_and (bit_and v w / 2 ^ unsigned_abs s) 0xFFFF_FFFF) (to_z-of_z w32 z sfits) ∙ and_mask _ 32
    ∙ ap (λ n. n / 2 ^ unsigned_abs z % 2 ^ 32) (sym (common-bit_and v w fits))

-- With the mask and the shift of an exponent byte, this number is the byte.
pub common_base : (word : ℕ) → common word 0x00FF0000_00000000_00000000_00000000 / 2 ^ 112 % 2 ^ 32 ≡ part word 112 8
common_base word = search (rules, common-bit_and, byte_by_mask)

pub common_radix : (word : ℕ) → common word 0xFF000000_00000000_00000000_00000000 / 2 ^ 120 % 2 ^ 32 ≡ part word 120 8
common_radix word = search (rules, common-bit_and, byte_by_mask)
