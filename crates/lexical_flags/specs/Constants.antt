-- The constants of the code, and the lists and relations with which `layout_facts` compares them.
use Rattle.std.specs.Prelude.{ℕ, zero, suc, ℤ, ◌≡◌, ◌*◌, List, [], ◌∷◌, bit_and}
use Rattle.lexical_flags.specs.Layout.{Flag, Byte}
use Rattle.lexical_flags.specs.Layout as layout
use Rattle.lexical_flags.specs.declared.format_flags.TheConstants as constants

-- `flag_constant f` is the constant of the code that is the mask of the flag `f`.
abbrev pub flag_constant : Flag → ℕ
flag_constant layout.required_integer_digits = constants.REQUIRED_INTEGER_DIGITS
flag_constant layout.required_fraction_digits = constants.REQUIRED_FRACTION_DIGITS
flag_constant layout.required_exponent_digits = constants.REQUIRED_EXPONENT_DIGITS
flag_constant layout.required_mantissa_digits = constants.REQUIRED_MANTISSA_DIGITS
flag_constant layout.no_positive_mantissa_sign = constants.NO_POSITIVE_MANTISSA_SIGN
flag_constant layout.required_mantissa_sign = constants.REQUIRED_MANTISSA_SIGN
flag_constant layout.no_exponent_notation = constants.NO_EXPONENT_NOTATION
flag_constant layout.no_positive_exponent_sign = constants.NO_POSITIVE_EXPONENT_SIGN
flag_constant layout.required_exponent_sign = constants.REQUIRED_EXPONENT_SIGN
flag_constant layout.no_exponent_without_fraction = constants.NO_EXPONENT_WITHOUT_FRACTION
flag_constant layout.no_special = constants.NO_SPECIAL
flag_constant layout.case_sensitive_special = constants.CASE_SENSITIVE_SPECIAL
flag_constant layout.no_integer_leading_zeros = constants.NO_INTEGER_LEADING_ZEROS
flag_constant layout.no_float_leading_zeros = constants.NO_FLOAT_LEADING_ZEROS
flag_constant layout.required_exponent_notation = constants.REQUIRED_EXPONENT_NOTATION
flag_constant layout.case_sensitive_exponent = constants.CASE_SENSITIVE_EXPONENT
flag_constant layout.case_sensitive_base_prefix = constants.CASE_SENSITIVE_BASE_PREFIX
flag_constant layout.case_sensitive_base_suffix = constants.CASE_SENSITIVE_BASE_SUFFIX
flag_constant layout.integer_internal_digit_separator = constants.INTEGER_INTERNAL_DIGIT_SEPARATOR
flag_constant layout.fraction_internal_digit_separator = constants.FRACTION_INTERNAL_DIGIT_SEPARATOR
flag_constant layout.exponent_internal_digit_separator = constants.EXPONENT_INTERNAL_DIGIT_SEPARATOR
flag_constant layout.integer_leading_digit_separator = constants.INTEGER_LEADING_DIGIT_SEPARATOR
flag_constant layout.fraction_leading_digit_separator = constants.FRACTION_LEADING_DIGIT_SEPARATOR
flag_constant layout.exponent_leading_digit_separator = constants.EXPONENT_LEADING_DIGIT_SEPARATOR
flag_constant layout.integer_trailing_digit_separator = constants.INTEGER_TRAILING_DIGIT_SEPARATOR
flag_constant layout.fraction_trailing_digit_separator = constants.FRACTION_TRAILING_DIGIT_SEPARATOR
flag_constant layout.exponent_trailing_digit_separator = constants.EXPONENT_TRAILING_DIGIT_SEPARATOR
flag_constant layout.integer_consecutive_digit_separator = constants.INTEGER_CONSECUTIVE_DIGIT_SEPARATOR
flag_constant layout.fraction_consecutive_digit_separator = constants.FRACTION_CONSECUTIVE_DIGIT_SEPARATOR
flag_constant layout.exponent_consecutive_digit_separator = constants.EXPONENT_CONSECUTIVE_DIGIT_SEPARATOR
flag_constant layout.special_digit_separator = constants.SPECIAL_DIGIT_SEPARATOR

-- `byte_constant b` is the constant of the code that is the mask of the byte `b`.
abbrev pub byte_constant : Byte → ℕ
byte_constant layout.digit_separator = constants.DIGIT_SEPARATOR
byte_constant layout.base_prefix = constants.BASE_PREFIX
byte_constant layout.base_suffix = constants.BASE_SUFFIX
byte_constant layout.mantissa_radix = constants.MANTISSA_RADIX
byte_constant layout.exponent_base = constants.EXPONENT_BASE
byte_constant layout.exponent_radix = constants.EXPONENT_RADIX

-- `byte_shift b` is the constant of the code that is the lowest bit of the byte `b`.
abbrev pub byte_shift : Byte → ℤ
byte_shift layout.digit_separator = constants.DIGIT_SEPARATOR_SHIFT
byte_shift layout.base_prefix = constants.BASE_PREFIX_SHIFT
byte_shift layout.base_suffix = constants.BASE_SUFFIX_SHIFT
byte_shift layout.mantissa_radix = constants.MANTISSA_RADIX_SHIFT
byte_shift layout.exponent_base = constants.EXPONENT_BASE_SHIFT
byte_shift layout.exponent_radix = constants.EXPONENT_RADIX_SHIFT

-- `doublings first count` lists `count` numbers. The first is `first`, and each later one is twice the one before it.
abbrev pub doublings : ℕ → ℕ → List ℕ
doublings first zero = []
doublings first (suc count) = first ∷ doublings (2 * first) count

-- `ShareNoBit a b` holds if the masks `a` and `b` have no bit in common.
abbrev pub ShareNoBit : ℕ → ℕ → Type 0
ShareNoBit a b = bit_and a b ≡ 0
