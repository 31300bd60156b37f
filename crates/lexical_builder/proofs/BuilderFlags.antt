-- Lemmas on the flags of a builder: their bits, how they are moved to and from a word, and how they are written under a
-- mask. One lemma is on the bytes of a word.
use Rattle.std.proofs.Common.{rules, min, max, map, w32, mod-lt}
use Rattle.lexical_builder.proofs.Common.{ℕ, ◌≡◌, ◌+◌, ◌-◌, ◌*◌, ◌/◌, ◌%◌, ◌^◌, ◌<◌, ◌==◌, Bool, if◌then◌else◌, length, sum_by, bit_and, bit_or, ap, ◌∙◌, arith}
use Rattle.lexical_builder.proofs.Common.{or_comm, or_shifted, pow_pos, nat_tests, part, Flag, bit, bytes_same, flags, builder_bit, flags_in, record_same}
use Rattle.std.proofs.lemmas.Bool.{cond_both}
use Rattle.std.proofs.lemmas.Nat.{and_le_l, and_mask, or_lt, shr-shr}
use Rattle.std.proofs.lemmas.Nat.Bits.{and_high, bit_at_or, bit_at_and, bit_at_not}
use Rattle.lexical_flags.specs.Layout.{base_flags, digit_separator_flags}
use Rattle.lexical_flags.proofs.FlagBits.{flag_test}
use Rattle.lexical_flags.proofs.Packing.{low, high}
use Rattle.lexical_flags.proofs.Segments.{joined-segments}

bit-lt : (n k : ℕ) → part n k 1 < 2
bit-lt n k = mod-lt _ (omega arith)

-- The bit of each flag in a builder is below 32.
pub builder_bit-lt : (f : Flag) → builder_bit f < 32
builder_bit-lt f = grind arith

-- Each flag of a word is at its bit in the flags of a builder.
pub part-flags_in : (word : ℕ) (f : Flag) → part (flags_in word) (builder_bit f) 1 ≡ part word (bit f) 1
part-flags_in word f = search rules

-- The byte at a bit of the upper half of a word is the byte of the word 64 bits above.
pub part-upper : (word s : ℕ) → part (word / 2 ^ 64) s 8 ≡ part word (64 + s) 8
part-upper word s = ap (λ n. n % 2 ^ 8) (shr-shr word 64 s)

-- `moved_fields` are what the proofs of `from_word` and `rebuild` need.
pub ruleset moved_fields = (record_same, bytes_same, part-flags_in, part-upper)

-- The mask of a flag in a word is moved to the mask of its bit in a builder.
pub flags_in-mask : (f : Flag) → flags_in (2 ^ bit f) ≡ 2 ^ builder_bit f
flags_in-mask f = search rules

-- `masked_flag` is what the proof of `has_flag` needs.
pub ruleset masked_flag = (flag_test, flags_in-mask)

-- The two blocks of flags in a word, moved together and joined by `|`, are the flags of a builder.
pub builder_blocks : (word : ℕ) → bit_or (bit_and word (2 ^ low - 1)) (bit_and word ((2 ^ high - 1) * 2 ^ 32) / 2 ^ 32 * 2 ^ low % 2 ^ 32) ≡ flags_in word
builder_blocks word =
    let first : bit_and word (2 ^ low - 1) ≡ part word 0 low = and_mask word low ∙ omega arith in
    let small : part word 32 high < 2 ^ high = mod-lt _ (pow_pos high) in
    let second : bit_and word ((2 ^ high - 1) * 2 ^ 32) / 2 ^ 32 * 2 ^ low % 2 ^ 32 ≡ part word 32 high * 2 ^ low =
    omega (arith, and_high word high 32, small) in
    (λ i. bit_or (first i) (second i)) ∙ or_comm (part word 0 low) (part word 32 high * 2 ^ low)
    ∙ or_shifted (part word 32 high) low (part word 0 low) (mod-lt _ (pow_pos low)) ∙ omega arith

-- The value of a bit if it is set, and 0 otherwise, is the bit times the value.
pub bit_value : (n value : ℕ) → n < 2 → (if n == 1 then value else 0) ≡ n * value
bit_value n value l = grind (arith, nat_tests)

-- The sum of the flags of a builder, at their bits in a word, is the two blocks of flags in the word.
pub flags_as_blocks : (n : ℕ) → sum_by (λ f. if part n (builder_bit f) 1 == 1 then 2 ^ bit f else 0) flags ≡ part n 0 low + part n low high * 2 ^ 32
flags_as_blocks n =
    let first = joined-segments 0 (map (λ _. 1) base_flags) n in
    let both = joined-segments low (map (λ _. 1) digit_separator_flags) n in
    (λ i. sum_by (λ f. bit_value (part n (builder_bit f) 1) (2 ^ bit f) (bit-lt n (builder_bit f)) i) flags) ∙ omega arith

-- The two blocks of flags in a builder, moved apart and joined by `|`, are the two blocks of flags in a word.
pub word_blocks : (n : ℕ) → n < 2 ^ length flags → bit_or (bit_and n (2 ^ low - 1))
    (bit_and (n * 2 ^ (32 - low) % 2 ^ 128) ((2 ^ high - 1) * 2 ^ 32)) ≡ part n 0 low + part n low high * 2 ^ 32
word_blocks n l =
    let first : bit_and n (2 ^ low - 1) ≡ part n 0 low = and_mask n low ∙ omega arith in
    let second : bit_and (n * 2 ^ (32 - low) % 2 ^ 128) ((2 ^ high - 1) * 2 ^ 32) ≡ part n low high * 2 ^ 32 =
    ap (λ m. bit_and m ((2 ^ high - 1) * 2 ^ 32)) (omega (arith, l)) ∙ and_high (n * 2 ^ (32 - low)) high 32 ∙ omega arith in
    let below : part n 0 low < 2 ^ 32 = omega arith in
    (λ i. bit_or (first i) (second i)) ∙ or_comm (part n 0 low) (part n low high * 2 ^ 32) ∙ or_shifted (part n low high) 32 (part n 0 low) below ∙ omega arith

-- If a bit is cleared where a mask is 1 and then set to a value, it has the value there, and is unchanged otherwise.
set_bit : (a m : ℕ) (value : Bool) → a < 2 → m < 2 → (max (min a (1 - m)) (if value then m else 0) == 1) ≡ (if m == 1 then value else (a == 1))
set_bit a m value l k = grind (arith, nat_tests)

part-if : (value : Bool) (m i : ℕ) → part (if value then m else 0) i 1 ≡ (if value then part m i 1 else 0)
part-if value m i = grind (arith, nat_tests)

-- If the bits in a mask are cleared and then set to a value, they have the value, and all other bits are unchanged.
pub replaced_test : (a m i : ℕ) (value : Bool) → m < 2 ^ 32 → i < 32 → (part (bit_or (bit_and a (2 ^ 32 - 1 - m)) (if value then m else 0)) i 1 == 1) ≡
    (if part m i 1 == 1 then value else (part a i 1 == 1))
replaced_test a m i value l k = ap (λ n. n == 1) (bit_at_or (bit_and a (2 ^ 32 - 1 - m)) (if value then m else 0) i
    ∙ (λ j. max ((bit_at_and a (2 ^ 32 - 1 - m) i ∙ ap (λ n. min (part a i 1) n) (bit_at_not w32 m i l k)) j) (part-if value m i j)))
    ∙ set_bit (part a i 1) (part m i 1) value (bit-lt a i) (bit-lt m i)

-- `replaced` are what the proof of `replace_bits` needs.
pub ruleset replaced = (replaced_test, or_lt, and_le_l, cond_both, pow_pos)
