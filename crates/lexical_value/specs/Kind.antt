-- What a literal is worth by its kind.
use Rattle.std.specs.Prelude.{ℕ, ◌≡◌, ◌<◌, ◌-◌, ◌%◌, ◌^◌, ◌==◌, ◌&&◌, ◌||◌, Bool, true, false, not, if◌then◌else◌, min, nat_le, nat_lt}
use Rattle.std.specs.Prelude.{IsFalse, IsTrue, IsSomeAnd, MatchOption, Option, Some, None, option_map, Result, Ok, Err, ℤ}
use Rattle.std.specs.Option.{ok_or}
use Rattle.std.specs.Float.{Float, Format, binary32, float_is_infinite}
use Rattle.std.specs.Float.Ieee.{round}
use Rattle.lexical_util.specs.Layout.{Byte}
use Rattle.lexical_util.specs.Layout as layout
use Rattle.lexical_literal.specs.Literal.{Literal, is_float, is_minus}
use Rattle.lexical_literal.specs.declared.kind.FloatKind.{FloatKind}
use Rattle.lexical_literal.specs.declared.kind.FloatKind.TheVariants as floats
use Rattle.lexical_literal.specs.declared.kind.FloatLimits.{FloatLimits}
use Rattle.lexical_literal.specs.declared.kind.FloatLimits.TheVariants as limits
use Rattle.lexical_literal.specs.declared.kind.IntegerKind.{IntegerKind}
use Rattle.lexical_literal.specs.declared.kind.IntegerKind.TheVariants as integers
use Rattle.lexical_literal.specs.declared.kind.Kind.{Kind}
use Rattle.lexical_literal.specs.Read.{mantissa}
use Rattle.lexical_number.specs.Float.{is_zero}
use Rattle.lexical_number.specs.Numeral.{Range, signed, unsigned, with_sign}
use Rattle.lexical_value.specs.Float.{is_binary, is_decimal, nearest}
use Rattle.lexical_number.specs.Number.{number}
use Rattle.lexical_value.specs.declared.integer.ValueErrorKind.{ValueErrorKind}
use Rattle.lexical_value.specs.declared.integer.ValueErrorKind.TheVariants as kinds

-- `width bits` is `bits`. No kind by which numbers wrap has more than 64.
abbrev pub width : ℕ → ℕ
width bits = min bits 64

-- `wrapped bits negative n` is the sign and the size of the integer of so many bits, one of which is the sign, that differs from `n`, or from
-- `-n` if `negative` is true, by `2 ^ bits` or not at all. It is `n` below `2 ^ (bits - 1)`, and from there on `n - 2 ^ bits`.
abbrev pub wrapped : ℕ → Bool → ℕ → Bool × ℕ
wrapped bits negative n = if nat_le n (if negative then 2 ^ (bits - 1) else 2 ^ (bits - 1) - 1) then (negative, n) else (not negative, 2 ^ bits - n)

-- `ranged range negative n` is the sign and the size of `n`, or of `-n` if `negative` is true, or `None` if that is not in the range.
abbrev pub ranged : {T : Type 0} → Range T → Bool → ℕ → Option (Bool × ℕ)
ranged range negative n = if nat_le n (if negative then range.least else range.largest) then Some (negative, n) else None

-- `worth kind negative n` is what `n`, or `-n` if `negative` is true, is worth: a sign and a size, or `None` if it is too large. No kind has more
-- than 128 bits.
abbrev pub worth : IntegerKind → Bool → ℕ → Option (Bool × ℕ)
worth integers.Exact negative n = Some (negative, n)
worth (integers.Signed bits) negative n = ranged (signed (min bits 128)) negative n
worth (integers.Unsigned bits) negative n = ranged (unsigned (min bits 128)) negative n
worth (integers.Wraps bits) negative n = if nat_lt n (2 ^ min bits 64) then Some (wrapped (min bits 64) negative n) else None
worth (integers.WrapsModulo bits) negative n = Some (wrapped (min bits 64) negative (n % 2 ^ min bits 64))

-- `is_exact kind` is true if integers are worth the number that their digits represent.
abbrev pub is_exact : IntegerKind → Bool
is_exact integers.Exact = true
is_exact _ = false

-- `integer_worth kind b l` is the sign and the size of what the integer `l` is worth in a format with the bytes `b`, or `None` if it is too large.
abbrev pub integer_worth : IntegerKind → (Byte → ℕ) → Literal → Option (Bool × ℕ)
integer_worth kind b l = worth kind (is_minus l.sign) (number (b layout.mantissa_radix) l.integer)

-- `IsWorth kind b l z` holds if `l` has neither a decimal point nor an exponent, and is worth `z`.
abbrev pub IsWorth : IntegerKind → (Byte → ℕ) → Literal → ℤ → Type 0
IsWorth kind b l z = IsFalse (is_float l) × IsSomeAnd (integer_worth kind b l) (λ w. z ≡ with_sign w.0 w.1)

-- `IsNotWorth kind least largest b l error` holds if `error` is why `l` is not worth an integer from `-least` to `largest`. If the number is too large
-- for its kind, its sign decides.
abbrev pub IsNotWorth : IntegerKind → ℕ → ℕ → (Byte → ℕ) → Literal → ValueErrorKind → Type 0
IsNotWorth kind least largest b l kinds.Float = IsTrue (is_float l)
IsNotWorth kind least largest b l kinds.TooLarge =
    IsFalse (is_float l) × MatchOption (integer_worth kind b l) (IsFalse (is_minus l.sign)) (λ w. IsFalse w.0 × (largest < w.1))
IsNotWorth kind least largest b l kinds.TooSmall =
    IsFalse (is_float l) × MatchOption (integer_worth kind b l) (IsTrue (is_minus l.sign)) (λ w. IsTrue w.0 × (least < w.1))
IsNotWorth kind least largest b l _ = ⊥

-- `format_by kind f` is the format of `f32` if floats are single, and otherwise `f`.
abbrev pub format_by : FloatKind → Format → Format
format_by floats.Nearest f = f
format_by floats.Single f = binary32

-- `within limits negative n x` is the float `x` of a literal with the digits of `n` and, if `negative` is true, the sign `-`, or by these
-- limits why it is none: it is infinite, or it is 0, and `n` is not.
abbrev pub within : FloatLimits → Bool → ℕ → Float → Result Float ValueErrorKind
within limits.None negative n x = Ok x
within limits.Largest negative n x = if float_is_infinite x then Err (if negative then kinds.TooSmall else kinds.TooLarge) else Ok x
within limits.Both negative n x =
    if float_is_infinite x then Err (if negative then kinds.TooSmall else kinds.TooLarge)
    else (if is_zero x && not (n == 0) then Err kinds.Vanishes else Ok x)

-- `float_worth kind f b l` is what `l` is worth as a float of `f`, or why it is none. Integers of the exact kind are floats, too.
abbrev pub float_worth : Kind → Format → (Byte → ℕ) → Literal → Result Float ValueErrorKind
float_worth kind f b l =
    if not (is_decimal b || is_binary b) then Err kinds.UnsupportedRadix
    else (if is_exact kind.integers || is_float l then within kind.limits (is_minus l.sign) (mantissa b l) (nearest (format_by kind.floats f) b l)
    else ok_or (option_map (λ w. round f w.0 w.1 1) (integer_worth kind.integers b l)) (if is_minus l.sign then kinds.TooSmall else kinds.TooLarge))
