-- Lemmas on the bits of a word under a mask that is written as a number.
use Rattle.std.proofs.Common.{ℕ, ◌≡◌, ◌+◌, ◌-◌, ◌*◌, ◌/◌, ◌%◌, ◌^◌, ◌<◌, ◌==◌, ◌≢◌, ◌↔◌}
use Rattle.std.proofs.Common.{nat_lt, IsTrue, true, not, if◌then◌else◌, List, sum_by, bit_and, refl, sym, ap, ◌∙◌, arith}
use Rattle.std.proofs.Math.Nat.{mod-lt}
use Rattle.std.proofs.lemmas.Bool.Decides.{nat_tests}
use Rattle.std.proofs.lemmas.Nat.{pow-add, pow_pos}
use Rattle.std.proofs.lemmas.Nat.Bits.{and_high}
use Rattle.lexical_flags.specs.Layout.{part, Flag, bit}
use Rattle.lexical_flags.specs.Record.{raw, flag_bits}
use Rattle.lexical_flags.specs.Additions.Masks.{mask_of}
use Rattle.lexical_flags.specs.Common.{common}
use Rattle.lexical_util.proofs.Lower.{start, ascends, and_all, flag_by_mask, mask_test, common-bit_and}
use Rattle.lexical_util.specs.Edits.{flags_of}
use Rattle.lexical_util.specs.Groups.{any_flag, bits_of}
use Rattle.lexical_util.specs.declared.edits.setters.FlagSetter.{FlagSetter}
use Rattle.lexical_util.specs.declared.edits.setters.FlagSetter.TheVariants as setters

-- The test of a word under the mask of some flags is the test that one of these flags is set.
pub any_by_mask : (word mask : ℕ) (fs : List Flag) → mask ≡ mask_of fs → ascends bit 1 0 fs ≡ true → not (bit_and word mask == 0) ≡ any_flag word fs
unfolding any_flag
any_by_mask word mask fs is up = rw is (mask_test fs word up)

-- The flags of a setter are in the order of their bits. Each case is computed.
pub flags_ascend : (setter : FlagSetter) → ascends bit 1 0 (flags_of setter) ≡ true
flags_ascend setters.RequiredIntegerDigits = refl
flags_ascend _ = refl

one_bit : (n k : ℕ) → n < 2 → n * 2 ^ k ≡ (if n == 1 then 2 ^ k else 0)
one_bit n k small = grind (arith, nat_tests)

flag_bits-raw : (word : ℕ) (f : Flag) → part word (bit f) 1 * 2 ^ bit f ≡ flag_bits (raw word) f
flag_bits-raw word f = one_bit (part word (bit f) 1) (bit f) (mod-lt _ (omega arith))

-- The bits of a word under the mask of some flags are the bits of the flags that are set.
pub bits_by_mask : (word mask : ℕ) (fs : List Flag) → mask ≡ mask_of fs → ascends bit 1 0 fs ≡ true → bit_and word mask ≡ bits_of word fs
unfolding bits_of
bits_by_mask word mask fs is up = rw is (and_all bit fs word up ∙ (λ i. sum_by (λ f. flag_bits-raw word f i) fs))

-- The bits of a word under a mask of 128 bits are the bits that word and mask have in common.
pub common_by_mask : (word mask : ℕ) → nat_lt mask (2 ^ 128) ≡ true → bit_and word mask ≡ common word mask
common_by_mask word mask fits = sym (common-bit_and word mask (grind (arith, nat_tests)))

-- The test of a word under a mask is true if and only if word and mask have a bit in common.
pub some_by_mask : (word mask : ℕ) → nat_lt mask (2 ^ 128) ≡ true → (IsTrue (not (bit_and word mask == 0)) → common word mask ≢ 0)
    × (common word mask ≢ 0 → IsTrue (not (bit_and word mask == 0)))
some_by_mask word mask fits = let same : bit_and word mask ≡ common word mask = common_by_mask word mask fits in
    grind (arith, nat_tests)

-- The square of a square is the fourth power.
pub fourth_power : (n : ℕ) → n ^ 2 * n ^ 2 ≡ n ^ 4
fourth_power n = sym (pow-add n 2 2)

-- The square of the fourth power is the eighth power.
pub eighth_power : (n : ℕ) → n ^ 4 * n ^ 4 ≡ n ^ 8
eighth_power n = sym (pow-add n 4 4)

zero_factor : (n p : ℕ) → 0 < p → n * p ≡ 0 → n ≡ 0
zero_factor n p high e = grind arith

-- A byte of a word is not 0 if and only if a bit under its mask, as the code writes it, is 1.
pub byte_test : (word mask unit : ℕ) → 2 ^ start unit ≡ unit → 255 * unit ≡ mask → IsTrue (not (bit_and word mask == 0)) ↔ (word / unit % 256 ≢ 0)
byte_test word mask unit is same =
    let whole : mask ≡ 2 ^ (8 + start unit) - 2 ^ start unit = omega (arith, is, same, pow-add 2 8 (start unit)) in
    let parts : bit_and word mask ≡ word / unit % 256 * unit = ap (bit_and word) whole ∙ and_high word 8 (start unit) ∙ ap (λ u. word / u % 256 * u) is in
    let zero = zero_factor (word / unit % 256) unit (rw (← is) (pow_pos (start unit))) in
    grind (arith, nat_tests)

pub ruleset masks_and_powers = (
  byte_test,
  flag_by_mask,
  any_by_mask,
  bits_by_mask,
  common_by_mask,
  some_by_mask,
  fourth_power,
  eighth_power,
)
