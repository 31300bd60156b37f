-- The flags and bytes of a format word, and their bits.
use Rattle.std.specs.Prelude.{ℕ, ◌≡◌, ◌/◌, ◌%◌, ◌^◌, List, [], ◌∷◌, drop, take}
use Rattle.lexical_flags.specs.declared.format_flags.parts.Part.{Part}
use Rattle.lexical_flags.specs.declared.format_flags.parts.Part.TheVariants as parts

-- `part word s n` is the number in the `n` bits of `word` from bit `s` up.
abbrev pub part : ℕ → ℕ → ℕ → ℕ
part word s n = word / 2 ^ s % 2 ^ n

-- `Flag` is the type of the flags.
pub data Flag : Type 0 where
  required_integer_digits required_fraction_digits required_exponent_digits required_mantissa_digits : Flag
  no_positive_mantissa_sign required_mantissa_sign no_exponent_notation : Flag
  no_positive_exponent_sign required_exponent_sign no_exponent_without_fraction : Flag
  no_special case_sensitive_special : Flag
  no_integer_leading_zeros no_float_leading_zeros required_exponent_notation : Flag
  case_sensitive_exponent case_sensitive_base_prefix case_sensitive_base_suffix : Flag
  integer_internal_digit_separator fraction_internal_digit_separator exponent_internal_digit_separator : Flag
  integer_leading_digit_separator fraction_leading_digit_separator exponent_leading_digit_separator : Flag
  integer_trailing_digit_separator fraction_trailing_digit_separator exponent_trailing_digit_separator : Flag
  integer_consecutive_digit_separator fraction_consecutive_digit_separator exponent_consecutive_digit_separator : Flag
  special_digit_separator : Flag

-- `Byte` is the type of the six bytes.
pub data Byte : Type 0 where
  digit_separator base_prefix base_suffix mantissa_radix exponent_base exponent_radix : Byte

-- `bit f` is the bit of the flag `f`.
abbrev pub bit : Flag → ℕ
bit required_integer_digits = 0
bit required_fraction_digits = 1
bit required_exponent_digits = 2
bit required_mantissa_digits = 3
bit no_positive_mantissa_sign = 4
bit required_mantissa_sign = 5
bit no_exponent_notation = 6
bit no_positive_exponent_sign = 7
bit required_exponent_sign = 8
bit no_exponent_without_fraction = 9
bit no_special = 10
bit case_sensitive_special = 11
bit no_integer_leading_zeros = 12
bit no_float_leading_zeros = 13
bit required_exponent_notation = 14
bit case_sensitive_exponent = 15
bit case_sensitive_base_prefix = 16
bit case_sensitive_base_suffix = 17
bit integer_internal_digit_separator = 32
bit fraction_internal_digit_separator = 33
bit exponent_internal_digit_separator = 34
bit integer_leading_digit_separator = 35
bit fraction_leading_digit_separator = 36
bit exponent_leading_digit_separator = 37
bit integer_trailing_digit_separator = 38
bit fraction_trailing_digit_separator = 39
bit exponent_trailing_digit_separator = 40
bit integer_consecutive_digit_separator = 41
bit fraction_consecutive_digit_separator = 42
bit exponent_consecutive_digit_separator = 43
bit special_digit_separator = 44

-- `shift b` is the lowest bit of the byte `b`.
abbrev pub shift : Byte → ℕ
shift b = elim b [ digit_separator ↦ 64 | base_prefix ↦ 88 | base_suffix ↦ 96 | mantissa_radix ↦ 104 | exponent_base ↦ 112 | exponent_radix ↦ 120 ]

-- `flags` lists all flags, in the order of their bits.
abbrev pub flags : List Flag
flags =
    required_integer_digits ∷ required_fraction_digits ∷ required_exponent_digits ∷ required_mantissa_digits ∷ no_positive_mantissa_sign ∷
    required_mantissa_sign ∷ no_exponent_notation ∷ no_positive_exponent_sign ∷ required_exponent_sign ∷ no_exponent_without_fraction ∷ no_special ∷
    case_sensitive_special ∷ no_integer_leading_zeros ∷ no_float_leading_zeros ∷ required_exponent_notation ∷ case_sensitive_exponent ∷
    case_sensitive_base_prefix ∷ case_sensitive_base_suffix ∷
    integer_internal_digit_separator ∷ fraction_internal_digit_separator ∷ exponent_internal_digit_separator ∷
    integer_leading_digit_separator ∷ fraction_leading_digit_separator ∷ exponent_leading_digit_separator ∷
    integer_trailing_digit_separator ∷ fraction_trailing_digit_separator ∷ exponent_trailing_digit_separator ∷
    integer_consecutive_digit_separator ∷ fraction_consecutive_digit_separator ∷ exponent_consecutive_digit_separator ∷
    special_digit_separator ∷ []

-- `base_flags` lists the flags below bit 32: the first 18.
abbrev pub base_flags : List Flag
base_flags = take 18 flags

-- `digit_separator_flags` lists the flags from bit 32 up: all flags that allow a digit separator somewhere.
abbrev pub digit_separator_flags : List Flag
digit_separator_flags = drop 18 flags

-- `required_digits` lists the flags that require digits.
abbrev pub required_digits : List Flag
required_digits = required_integer_digits ∷ required_fraction_digits ∷ required_exponent_digits ∷ required_mantissa_digits ∷ []

-- These four list the flags that allow a digit separator between digits, before digits, after digits, and behind another separator.
abbrev pub internal_digit_separator : List Flag
internal_digit_separator = integer_internal_digit_separator ∷ fraction_internal_digit_separator ∷ exponent_internal_digit_separator ∷ []

abbrev pub leading_digit_separator : List Flag
leading_digit_separator = integer_leading_digit_separator ∷ fraction_leading_digit_separator ∷ exponent_leading_digit_separator ∷ []

abbrev pub trailing_digit_separator : List Flag
trailing_digit_separator = integer_trailing_digit_separator ∷ fraction_trailing_digit_separator ∷ exponent_trailing_digit_separator ∷ []

abbrev pub consecutive_digit_separator : List Flag
consecutive_digit_separator =
    integer_consecutive_digit_separator ∷ fraction_consecutive_digit_separator ∷ exponent_consecutive_digit_separator ∷ []

-- `SeparatorFlags` has the flags that allow digit separators between, before and after the digits of a part, and consecutive ones there.
pub record SeparatorFlags : Type 0 where
  pub internal : Flag
  pub leading : Flag
  pub trailing : Flag
  pub consecutive : Flag

-- `separators a b c d` has these flags in this order.
abbrev separators : Flag → Flag → Flag → Flag → SeparatorFlags
separators a b c d = record { internal = a; leading = b; trailing = c; consecutive = d }

-- `separators_in part` has the digit separator flags of `part`.
abbrev pub separators_in : Part → SeparatorFlags
separators_in parts.Integer =
    separators integer_internal_digit_separator integer_leading_digit_separator integer_trailing_digit_separator integer_consecutive_digit_separator
separators_in parts.Fraction =
    separators fraction_internal_digit_separator fraction_leading_digit_separator fraction_trailing_digit_separator fraction_consecutive_digit_separator
separators_in parts.Exponent =
    separators exponent_internal_digit_separator exponent_leading_digit_separator exponent_trailing_digit_separator exponent_consecutive_digit_separator

-- `separator_flags_in part` lists the digit separator flags of `part`.
abbrev pub separator_flags_in : Part → List Flag
separator_flags_in part =
    let own = separators_in part in own.internal ∷ own.leading ∷ own.trailing ∷ own.consecutive ∷ []

-- `integer_digit_separator_flags` lists the digit separator flags of the integer part.
abbrev pub integer_digit_separator_flags : List Flag
integer_digit_separator_flags = separator_flags_in parts.Integer

-- `fraction_digit_separator_flags` lists the digit separator flags of the fraction.
abbrev pub fraction_digit_separator_flags : List Flag
fraction_digit_separator_flags = separator_flags_in parts.Fraction

-- `exponent_digit_separator_flags` lists the digit separator flags of the exponent.
abbrev pub exponent_digit_separator_flags : List Flag
exponent_digit_separator_flags = separator_flags_in parts.Exponent

-- `bytes` lists all bytes, in the order of their bits.
abbrev pub bytes : List Byte
bytes = digit_separator ∷ base_prefix ∷ base_suffix ∷ mantissa_radix ∷ exponent_base ∷ exponent_radix ∷ []

-- `IsClean word` holds if the reserved bits of `word`, which belong to no field, are 0.
pub record IsClean (word : ℕ) : Type 0 where
  pub below_separator_flags : part word 18 14 ≡ 0
  pub below_separator : part word 45 19 ≡ 0
  pub below_prefix : part word 72 16 ≡ 0
