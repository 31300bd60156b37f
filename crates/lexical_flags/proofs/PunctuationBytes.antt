-- Lemmas on the radixes in which a byte is absent or punctuation, by a table of all bytes.
use Rattle.lexical_flags.proofs.Common.{◌≡◌, ℕ, ◌+◌, ◌<◌, ◌⊎◌, ◌↔◌, ◌==◌, ◌||◌, not, true, nat_lt, if◌then◌else◌, IsTrue, eqb-true, refl, arith, mod-lt}
use Rattle.lexical_flags.proofs.Common.{pow_pos, agree_below_at, nat_tests, allowed_ascii, Record, raw, signs, IsAbsentOrPunctuation}
use Rattle.std.proofs.Common.{max, slice_index_or}
use Rattle.lexical_base.specs.Digits.{byte_value}
use Rattle.lexical_base.proofs.ValueLemmas.{byte_value-cases}
use Rattle.lexical_flags.specs.Rules.{IsPunctuation}
use Rattle.lexical_flags.specs.declared.format_flags.checks.TheConstants.{LIMITS}
use Rattle.lexical_flags.specs.Layout as layout

-- `limit byte` is the number of radixes in which `byte` is absent or punctuation. These are the radixes below it.
limit : ℕ → ℕ
limit byte = if byte == 0 then 256
    else if not (allowed_ascii byte) || signs byte then 0
    else if byte_value byte == 255 then 256 else byte_value byte + 1

-- The table has the limit of each byte.
limit_entry : (byte : ℕ) → byte < 256 → slice_index_or LIMITS byte 0 ≡ limit byte
unfolding byte_value limit
limit_entry byte below = eqb-true _ _ (agree_below_at (λ b. slice_index_or LIMITS b 0 == limit b) (λ _. true) 256 byte refl below)

-- A byte is absent or punctuation if and only if the larger radix is below its limit.
pub free_below_limit : (word byte : ℕ) → byte < 256 → let r : Record = raw word in
    IsTrue (nat_lt (max (r.byte layout.mantissa_radix) (r.byte layout.exponent_radix)) (slice_index_or LIMITS byte 0)) ↔ IsAbsentOrPunctuation r byte
unfolding IsPunctuation limit
free_below_limit word byte fits =
    let entry : slice_index_or LIMITS byte 0 ≡ limit byte = limit_entry byte fits in
    let cases : (byte_value byte < 36) ⊎ (byte_value byte ≡ 255) = byte_value-cases byte fits in
    let exponent_fits : (raw word).byte layout.exponent_radix < 256 = mod-lt _ (pow_pos 8) in
    rw entry (grind (arith, nat_tests))
