-- A lemma on the test of the reserved bits by one mask.
use Rattle.lexical_flags.proofs.Common.{ℕ, ◌≡◌, ◌+◌, ◌-◌, ◌%◌, ◌^◌, ◌↔◌, ◌==◌, IsTrue, eqb-true, bit_and, arith, and_zero_r, IsClean}
use Rattle.std.proofs.Common.{eq-eqb}
use Rattle.lexical_flags.specs.declared.format_flags.TheConstants.{RESERVED_MASK}
use Rattle.lexical_flags.proofs.Masks.{and_block_more}
use Rattle.lexical_flags.proofs.Packing.{low, high}

-- No bit under the mask is set if and only if the word is clean.
pub reserved_bits : (word : ℕ) → IsTrue (bit_and word RESERVED_MASK == 0) ↔ IsClean word
reserved_bits word =
    let nothing = and_zero_r word in
    let first = and_block_more word 0 low (32 - low) (omega arith) in
    let second = and_block_more word (RESERVED_MASK % 2 ^ 32) (32 + high) (32 - high) (omega arith) in
    let third = and_block_more word (RESERVED_MASK % 2 ^ 64) 72 16 (omega arith) in (
      λ test. let none : bit_and word RESERVED_MASK ≡ 0 = eqb-true _ 0 test in
          record { below_separator_flags = omega arith; below_separator = omega arith; below_prefix = omega arith },
      λ clean. eq-eqb _ 0 (omega arith),
    )
