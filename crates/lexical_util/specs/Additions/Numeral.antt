-- The digits of a radix, for `read_numeral`.
use Rattle.std.specs.Prelude.{ℕ, Bool, ◌&&◌, List, length, nat_lt, nat_le}
use Rattle.std.specs.List.{list_all}
use Rattle.lexical_base.specs.Digits.{byte_value}

-- `is_digit_of_radix radix byte` is true if `byte` is a digit of `radix`.
abbrev pub is_digit_of_radix : ℕ → ℕ → Bool
is_digit_of_radix radix byte = nat_lt (byte_value byte) radix

-- `is_numeral radix most digits` is true if `digits` are 1 to `most` digits of `radix`.
abbrev pub is_numeral : ℕ → ℕ → List ℕ → Bool
is_numeral radix most digits =
    nat_le 1 (length digits) && (nat_le (length digits) most && list_all (is_digit_of_radix radix) digits)
