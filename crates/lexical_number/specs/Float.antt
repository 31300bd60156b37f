-- Formats of floats, powers of two, and powers as fractions.
use Rattle.std.specs.Prelude.{ℕ, ◌^◌, ◌==◌, ◌||◌, Bool, if◌then◌else◌}
use Rattle.std.specs.Float.{Float, Format, binary32, binary64, float_zero}
use Rattle.std.specs.Float.Ieee.{eq}

-- `format_of double` is the format of `f64` if `double` is true, and of `f32` otherwise.
abbrev pub format_of : Bool → Format
format_of double = if double then binary64 else binary32

-- `is_zero x` is true if `x` is 0 or -0.
abbrev pub is_zero : Float → Bool
is_zero x = eq x float_zero

-- `is_power_of_two n` is true if `n` is 2, 4, 8, 16 or 32.
abbrev pub is_power_of_two : ℕ → Bool
is_power_of_two n = n == 2 || n == 4 || n == 8 || n == 16 || n == 32

-- `raised_up negative base e` and `raised_down negative base e` are the numerator and the denominator of `base ^ e`, or of
-- `base ^ -e` if `negative` is true.
abbrev pub raised_up : Bool → ℕ → ℕ → ℕ
raised_up negative base e = if negative then 1 else base ^ e

abbrev pub raised_down : Bool → ℕ → ℕ → ℕ
raised_down negative base e = if negative then base ^ e else 1
