-- The value of a literal, which is a fraction with a sign.
use Rattle.std.specs.Prelude.{ℕ, ◌≡◌, ◌*◌, ◌^◌, not, if◌then◌else◌, List, filter, length, map}
use Rattle.lexical_util.specs.Digits.{uppercase}
use Rattle.lexical_util.specs.Layout.{Byte}
use Rattle.lexical_util.specs.Layout as layout
use Rattle.lexical_util.specs.Record.{effective}
use Rattle.lexical_literal.specs.Literal.{Literal, is_minus}
use Rattle.lexical_literal.specs.Notation.{Notation}
use Rattle.lexical_literal.specs.Read.{exponent, mantissa}
use Rattle.lexical_number.specs.Number.{digits_in}

-- `scale b l` is the mantissa radix to the power of the number of fraction digits of `l`, where `b` has the bytes of the format.
abbrev pub scale : (Byte → ℕ) → Literal → ℕ
scale b l = b layout.mantissa_radix ^ length (digits_in (b layout.mantissa_radix) l.fraction)

-- `power b l` is the exponent base to the power of the number that the exponent digits of `l` represent.
abbrev pub power : (Byte → ℕ) → Literal → ℕ
power b l = effective (b layout.exponent_base) (b layout.mantissa_radix) ^ exponent b l

-- The value of `l` is `numerator b l` over `denominator b l`, with the sign of `l`.
abbrev pub numerator : (Byte → ℕ) → Literal → ℕ
numerator b l = mantissa b l * (if is_minus l.exponent_sign then 1 else power b l)

abbrev pub denominator : (Byte → ℕ) → Literal → ℕ
denominator b l = scale b l * (if is_minus l.exponent_sign then power b l else 1)

-- `SameValue a l b k` holds if the value of `l` in a format with the bytes `a` is that of `k` in one with the bytes `b`.
pub record SameValue (a : Byte → ℕ) (l : Literal) (b : Byte → ℕ) (k : Literal) : Type 0 where
  pub sign : is_minus l.sign ≡ is_minus k.sign
  pub numerator : numerator a l ≡ numerator b k
  pub denominator : denominator a l ≡ denominator b k

-- `spelled m bytes` is what is left of `bytes` without digit separators, with uppercase letters.
abbrev pub spelled : Notation → List ℕ → List ℕ
spelled m bytes = map uppercase (filter (λ byte. not (m.separator byte)) bytes)

-- `SameDigits m l k` holds if `l` and `k` have the same digits and the same signs, apart from digit separators, from the
-- case of letters, and from plus signs. Their other parts, such as prefixes, may be any.
pub record SameDigits (m : Notation) (l k : Literal) : Type 0 where
  pub sign : is_minus l.sign ≡ is_minus k.sign
  pub integer : spelled m l.integer ≡ spelled m k.integer
  pub fraction : spelled m l.fraction ≡ spelled m k.fraction
  pub exponent_sign : is_minus l.exponent_sign ≡ is_minus k.exponent_sign
  pub exponent : spelled m l.exponent ≡ spelled m k.exponent
