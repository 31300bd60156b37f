-- The writes of an edit, and the word that results from applying writes to a word.
use Rattle.std.specs.Prelude.{ℕ, List, [], ◌∷◌, flat_map}
use Rattle.lexical_flags.specs.Layout.{Flag}
use Rattle.lexical_flags.specs.Layout as layout
use Rattle.lexical_flags.specs.Record.{raw, fill, pack}
use Rattle.lexical_builder.specs.OptionByte.{byte_of_option}
use Rattle.lexical_builder.specs.Writes.{Write, write_byte, write_flags, after}
use Rattle.lexical_util.specs.declared.edits.setters.FlagSetter.{FlagSetter}
use Rattle.lexical_util.specs.declared.edits.setters.FlagSetter.TheVariants as setters
use Rattle.lexical_util.specs.declared.edits.setters.Edit.{Edit}
use Rattle.lexical_util.specs.declared.edits.setters.Edit.TheVariants as edits

-- `flags_of setter` lists the flags that `setter` writes.
abbrev pub flags_of : FlagSetter → List Flag
flags_of setters.RequiredIntegerDigits = layout.required_integer_digits ∷ []
flags_of setters.RequiredFractionDigits = layout.required_fraction_digits ∷ []
flags_of setters.RequiredExponentDigits = layout.required_exponent_digits ∷ []
flags_of setters.RequiredMantissaDigits = layout.required_mantissa_digits ∷ []
flags_of setters.NoPositiveMantissaSign = layout.no_positive_mantissa_sign ∷ []
flags_of setters.RequiredMantissaSign = layout.required_mantissa_sign ∷ []
flags_of setters.NoExponentNotation = layout.no_exponent_notation ∷ []
flags_of setters.NoPositiveExponentSign = layout.no_positive_exponent_sign ∷ []
flags_of setters.RequiredExponentSign = layout.required_exponent_sign ∷ []
flags_of setters.NoExponentWithoutFraction = layout.no_exponent_without_fraction ∷ []
flags_of setters.NoSpecial = layout.no_special ∷ []
flags_of setters.CaseSensitiveSpecial = layout.case_sensitive_special ∷ []
flags_of setters.NoIntegerLeadingZeros = layout.no_integer_leading_zeros ∷ []
flags_of setters.NoFloatLeadingZeros = layout.no_float_leading_zeros ∷ []
flags_of setters.RequiredExponentNotation = layout.required_exponent_notation ∷ []
flags_of setters.CaseSensitiveExponent = layout.case_sensitive_exponent ∷ []
flags_of setters.CaseSensitiveBasePrefix = layout.case_sensitive_base_prefix ∷ []
flags_of setters.CaseSensitiveBaseSuffix = layout.case_sensitive_base_suffix ∷ []
flags_of setters.IntegerInternalDigitSeparator = layout.integer_internal_digit_separator ∷ []
flags_of setters.FractionInternalDigitSeparator = layout.fraction_internal_digit_separator ∷ []
flags_of setters.ExponentInternalDigitSeparator = layout.exponent_internal_digit_separator ∷ []
flags_of setters.IntegerLeadingDigitSeparator = layout.integer_leading_digit_separator ∷ []
flags_of setters.FractionLeadingDigitSeparator = layout.fraction_leading_digit_separator ∷ []
flags_of setters.ExponentLeadingDigitSeparator = layout.exponent_leading_digit_separator ∷ []
flags_of setters.IntegerTrailingDigitSeparator = layout.integer_trailing_digit_separator ∷ []
flags_of setters.FractionTrailingDigitSeparator = layout.fraction_trailing_digit_separator ∷ []
flags_of setters.ExponentTrailingDigitSeparator = layout.exponent_trailing_digit_separator ∷ []
flags_of setters.IntegerConsecutiveDigitSeparator = layout.integer_consecutive_digit_separator ∷ []
flags_of setters.FractionConsecutiveDigitSeparator = layout.fraction_consecutive_digit_separator ∷ []
flags_of setters.ExponentConsecutiveDigitSeparator = layout.exponent_consecutive_digit_separator ∷ []
flags_of setters.SpecialDigitSeparator = layout.special_digit_separator ∷ []
flags_of setters.RequiredDigits = layout.required_digits
flags_of setters.InternalDigitSeparator = layout.internal_digit_separator
flags_of setters.LeadingDigitSeparator = layout.leading_digit_separator
flags_of setters.TrailingDigitSeparator = layout.trailing_digit_separator
flags_of setters.ConsecutiveDigitSeparator = layout.consecutive_digit_separator
flags_of setters.DigitSeparatorFlags = layout.digit_separator_flags
flags_of setters.IntegerDigitSeparatorFlags = layout.integer_digit_separator_flags
flags_of setters.FractionDigitSeparatorFlags = layout.fraction_digit_separator_flags
flags_of setters.ExponentDigitSeparatorFlags = layout.exponent_digit_separator_flags

-- `writes_of edit` lists the writes of `edit`: one for each field that it writes.
abbrev pub writes_of : Edit → List Write
writes_of (edits.Flag setter value) = write_flags (flags_of setter) value
writes_of (edits.DigitSeparator byte) = write_byte layout.digit_separator (byte_of_option byte) ∷ []
writes_of (edits.BasePrefix byte) = write_byte layout.base_prefix (byte_of_option byte) ∷ []
writes_of (edits.BaseSuffix byte) = write_byte layout.base_suffix (byte_of_option byte) ∷ []
writes_of (edits.MantissaRadix radix) = write_byte layout.mantissa_radix radix ∷ []
writes_of (edits.Radix radix) = write_byte layout.mantissa_radix radix ∷ []
writes_of (edits.ExponentBase base) = write_byte layout.exponent_base (byte_of_option base) ∷ []
writes_of (edits.ExponentRadix radix) = write_byte layout.exponent_radix (byte_of_option radix) ∷ []

-- `all_writes list` lists the writes of all edits in `list`, in order.
abbrev pub all_writes : List Edit → List Write
all_writes list = flat_map writes_of list

-- `edited word writes` is the result of filling the fields of `word`, applying `writes` to them in order, and packing
-- them.
abbrev pub edited : ℕ → List Write → ℕ
edited word writes = pack (after (fill (raw word)) writes)
