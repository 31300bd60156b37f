-- The value of a literal as a value of a float type.
use Rattle.std.specs.Prelude.{ℕ, ◌==◌, ◌&&◌, Bool}
use Rattle.std.specs.Float.{Float, Format}
use Rattle.std.specs.Float.Ieee.{round}
use Rattle.lexical_util.specs.Layout.{Byte}
use Rattle.lexical_util.specs.Layout as layout
use Rattle.lexical_util.specs.Record.{effective}
use Rattle.lexical_number.specs.Float.{is_power_of_two}
use Rattle.lexical_literal.specs.Literal.{Literal, is_minus}
use Rattle.lexical_value.specs.Value.{denominator, numerator}

-- `is_decimal b` is true if the mantissa radix and the exponent base of a format with the bytes `b` are 10.
abbrev pub is_decimal : (Byte → ℕ) → Bool
is_decimal b = b layout.mantissa_radix == 10 && effective (b layout.exponent_base) (b layout.mantissa_radix) == 10

-- `is_binary b` is true if the mantissa radix and the exponent base are powers of two.
abbrev pub is_binary : (Byte → ℕ) → Bool
is_binary b = is_power_of_two (b layout.mantissa_radix) && is_power_of_two (effective (b layout.exponent_base) (b layout.mantissa_radix))

-- `nearest f b l` is the value of `l`, rounded once to the nearest float of `f`, or to the even one if two are as near.
abbrev pub nearest : Format → (Byte → ℕ) → Literal → Float
nearest f b l = round f (is_minus l.sign) (numerator b l) (denominator b l)
