-- Lemmas on the upper half of a word, joined by `|` from the bytes of a record.
use Rattle.std.proofs.Common.{rules}
use Rattle.lexical_builder.proofs.Common.{ℕ, ◌≡◌, ◌+◌, ◌-◌, ◌*◌, ◌^◌, ◌<◌, [], ◌∷◌, sum_by, bit_or, refl, ap, ◌∙◌, arith, or_comm, or_shifted, Byte, flags}
use Rattle.lexical_builder.proofs.Common.{shift, Record, HasBytes, flag_bits, trim, pack}
use Rattle.lexical_flags.specs.Layout.{bytes}
use Rattle.lexical_flags.specs.Record.{word_of}
use Rattle.lexical_flags.proofs.FlagBits.{flags-lt}
use Rattle.lexical_flags.proofs.Masks.{or_all}
use Rattle.lexical_flags.specs.Layout as layout

-- `upper_bits r b` is the byte `b` of `r` at its bits in the upper half.
abbrev upper_bits : Record → Byte → ℕ
upper_bits r b = r.byte b * 2 ^ (shift b - 64)

-- `upper_of r` is the upper half of the word of `r`, as `build_unchecked` joins it.
abbrev pub upper_of : Record → ℕ
upper_of r = bit_or (bit_or (bit_or (bit_or (bit_or (r.byte layout.base_prefix * 2 ^ 24) (r.byte layout.base_suffix * 2 ^ 32))
    (r.byte layout.mantissa_radix * 2 ^ 40)) (r.byte layout.digit_separator)) (r.byte layout.exponent_base * 2 ^ 48)) (r.byte layout.exponent_radix * 2 ^ 56)

-- The upper half is the sum of the bytes.
upper_joined : (r : Record) → HasBytes r → upper_of r ≡ sum_by (upper_bits r) bytes
upper_joined r h =
    let start : Byte → ℕ = λ b. shift b - 64 in
    let separator : ℕ = r.byte layout.digit_separator in
    let middle : ℕ = r.byte layout.base_prefix + r.byte layout.base_suffix * 2 ^ 8 + r.byte layout.mantissa_radix * 2 ^ 16 in
    let first : r.byte layout.base_prefix * 2 ^ 24 < 2 ^ 32 = omega (arith, h.each layout.base_prefix) in
    let three = or_all start r.byte 8 h.each (layout.base_suffix ∷ layout.mantissa_radix ∷ []) 32 (r.byte layout.base_prefix * 2 ^ 24) first refl in
    let four = or_shifted middle 24 separator (omega (arith, h.each layout.digit_separator)) in
    let each = h.each in
    ap (λ n. bit_or (bit_or n (r.byte layout.exponent_base * 2 ^ 48)) (r.byte layout.exponent_radix * 2 ^ 56))
    (ap (λ n. bit_or n separator) (three ∙ omega arith) ∙ four)
    ∙ or_all start r.byte 8 h.each (layout.exponent_base ∷ layout.exponent_radix ∷ []) 48 (middle * 2 ^ 24 + separator) (omega arith) refl ∙ omega arith

-- The upper half has 64 bits.
pub upper-lt : (r : Record) → HasBytes r → upper_of r < 2 ^ 64
upper-lt r h = let each = h.each in omega (arith, upper_joined r h)

-- If the upper half of a trimmed record is joined to the flags by `|`, then the result is the packed record.
pub halves_joined : (r : Record) → HasBytes (trim r) → bit_or (sum_by (flag_bits r) flags) (upper_of (trim r) * 2 ^ 64) ≡ pack r
unfolding word_of
halves_joined r h = search (rules, or_comm, sum_by, flag_bits, flags, trim, or_shifted, flags-lt, upper_joined)
