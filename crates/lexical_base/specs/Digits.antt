-- Digit characters and their values.
use Rattle.std.specs.Prelude.{ℕ, ◌-◌, List, Option, Some, None, codes, position, unwrap_or, ◌==◌, nat_lt, if◌then◌else◌}
use Rattle.std.specs.Prelude.{min, map}
use Rattle.std.specs.Int.Digits.{number_from_digits}
use Rattle.lexical_base.specs.Ascii.{ByteSet, between}

-- `digit_characters` lists the 36 digit characters, each at the index that equals its value.
abbrev pub digit_characters : List ℕ
digit_characters = codes "0123456789ABCDEFGHIJKLMNOPQRSTUVWXYZ"

-- `uppercase byte` is the uppercase form of `byte` if `byte` is a lowercase letter, and `byte` otherwise.
abbrev pub uppercase : ℕ → ℕ
uppercase byte = if between 97 122 byte then byte - 32 else byte

-- `byte_value byte` is the index of `uppercase byte` in `digit_characters`, or 255 if it is not in that list.
unfoldable pub byte_value : ℕ → ℕ
byte_value byte = unwrap_or (position (λ character. character == uppercase byte) digit_characters) 255

-- `digit_of byte radix` is `Some` of the value of `byte` if that value is below `radix`, and `None` otherwise.
abbrev pub digit_of : ℕ → ℕ → Option ℕ
digit_of byte radix = if nat_lt (byte_value byte) radix then Some (byte_value byte) else None

-- `digits_of radix` is the set of the digits of `radix`. A radix above 36 has the same digits as radix 36.
abbrev pub digits_of : ℕ → ByteSet
digits_of radix byte = nat_lt (byte_value byte) (min radix 36)

-- `numeral radix digits` is the number that `digits` represent in `radix`, with the highest digit first.
abbrev pub numeral : ℕ → List ℕ → ℕ
numeral radix digits = number_from_digits radix (map byte_value digits)

-- `is_lowercase` is the set of the lowercase letters a to z.
abbrev pub is_lowercase : ByteSet
is_lowercase = between 97 122
