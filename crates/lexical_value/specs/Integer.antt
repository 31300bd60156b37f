-- The value of a literal as a value of an integer type.
use Rattle.std.specs.Prelude.{ℕ, ◌≡◌, ◌<◌, IsFalse, IsTrue, ℤ}
use Rattle.lexical_util.specs.Layout.{Byte}
use Rattle.lexical_util.specs.Layout as layout
use Rattle.lexical_literal.specs.Literal.{Literal, is_float, is_minus}
use Rattle.lexical_number.specs.Number.{number}
use Rattle.lexical_number.specs.Numeral.{with_sign}
use Rattle.lexical_value.specs.declared.integer.ValueErrorKind.{ValueErrorKind}
use Rattle.lexical_value.specs.declared.integer.ValueErrorKind.TheVariants as kinds

-- `integer_size b l` is the number that the integer digits of `l` represent in a format with the bytes `b`.
abbrev pub integer_size : (Byte → ℕ) → Literal → ℕ
integer_size b l = number (b layout.mantissa_radix) l.integer

-- `IsInteger b l z` holds if `l` has neither a decimal point nor an exponent, and its value is `z`.
abbrev pub IsInteger : (Byte → ℕ) → Literal → ℤ → Type 0
IsInteger b l z = IsFalse (is_float l) × (z ≡ with_sign (is_minus l.sign) (integer_size b l))

-- `IsNoInteger least largest b l kind` holds if `kind` is why `l` is not an integer from `-least` to `largest`.
abbrev pub IsNoInteger : ℕ → ℕ → (Byte → ℕ) → Literal → ValueErrorKind → Type 0
IsNoInteger least largest b l kinds.Float = IsTrue (is_float l)
IsNoInteger least largest b l kinds.TooLarge = IsFalse (is_float l) × IsFalse (is_minus l.sign) × (largest < integer_size b l)
IsNoInteger least largest b l kinds.TooSmall = IsFalse (is_float l) × IsTrue (is_minus l.sign) × (least < integer_size b l)
IsNoInteger least largest b l _ = ⊥
