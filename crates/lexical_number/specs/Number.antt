-- The number that digits represent among other bytes.
use Rattle.std.specs.Prelude.{ℕ, List, length}
use Rattle.std.specs.List.{filter_map}
use Rattle.std.specs.Int.Digits.{number_from_digits, number_from_digits_after}
use Rattle.lexical_base.specs.Digits.{digit_of}

-- `digits_in radix bytes` lists the values of the digits of `radix` among `bytes`. Other bytes, such as separators, are left out.
abbrev pub digits_in : ℕ → List ℕ → List ℕ
digits_in radix bytes = filter_map (λ byte. digit_of byte radix) bytes

-- `number radix bytes` is the number that the digits among `bytes` represent in `radix`, the highest first. Without digits, it is 0.
abbrev pub number : ℕ → List ℕ → ℕ
number radix bytes = number_from_digits radix (digits_in radix bytes)

-- `places radix bytes` is the number of digits among `bytes`.
abbrev pub places : ℕ → List ℕ → ℕ
places radix bytes = length (digits_in radix bytes)

-- `number_after radix n bytes` is the number that the digits among `bytes` represent after those of `n`.
abbrev pub number_after : ℕ → ℕ → List ℕ → ℕ
number_after radix n bytes = number_from_digits_after radix n (digits_in radix bytes)
