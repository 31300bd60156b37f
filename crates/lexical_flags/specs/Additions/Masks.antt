-- Masks as sums of powers of two, for `mask`. The flags in a mask, for `interface_flags` and `exponent_flags`.
use Rattle.std.specs.Prelude.{ℕ, ◌-◌, ◌*◌, ◌^◌, List, [], ◌∷◌, ◌++◌, sum_by}
use Rattle.lexical_flags.specs.Layout.{Flag, Byte, bit, shift}
use Rattle.lexical_flags.specs.Layout as layout

-- `byte_mask b` is the number with 1 in the eight bits of the byte `b`, and 0 in all other bits.
abbrev pub byte_mask : Byte → ℕ
byte_mask b = 255 * 2 ^ shift b

-- `mask_of fs` is the number with 1 in the bits of the flags `fs`, and 0 in all other bits.
abbrev pub mask_of : List Flag → ℕ
mask_of fs = sum_by (λ f. 2 ^ bit f) fs

-- `reserved_mask` is the number with 1 in the reserved bits, which belong to no field, and 0 in all other bits.
abbrev pub reserved_mask : ℕ
reserved_mask = 2 ^ 128 - 1 - mask_of layout.flags - sum_by byte_mask layout.bytes

-- `interface_flags` lists the flags of the constant `INTERFACE_FLAG_MASK`.
abbrev pub interface_flags : List Flag
interface_flags =
    layout.required_digits ++
    layout.no_exponent_notation ∷ layout.no_positive_exponent_sign ∷ layout.required_exponent_sign ∷ layout.no_exponent_without_fraction ∷
    layout.no_float_leading_zeros ∷ layout.required_exponent_notation ∷ [] ++
    layout.internal_digit_separator ++ layout.leading_digit_separator ++ layout.trailing_digit_separator ++ layout.consecutive_digit_separator

-- `exponent_flags` lists all exponent flags except `case_sensitive_exponent`.
abbrev pub exponent_flags : List Flag
exponent_flags =
    layout.required_exponent_digits ∷ layout.no_exponent_notation ∷ layout.no_positive_exponent_sign ∷
    layout.required_exponent_sign ∷ layout.no_exponent_without_fraction ∷ layout.required_exponent_notation ∷
    layout.exponent_internal_digit_separator ∷ layout.exponent_leading_digit_separator ∷
    layout.exponent_trailing_digit_separator ∷ layout.exponent_consecutive_digit_separator ∷ []
