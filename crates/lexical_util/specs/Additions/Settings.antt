-- The names of setters, and the settings that call them, for `Setter`, `Edit` and `EditError`.
use Rattle.std.specs.Prelude.{ℕ, ◌≡◌, ◌≢◌, ◌==◌, ◌&&◌, ◌-◌, Bool, true, false, nat_lt, if◌then◌else◌, Option, Some, None}
use Rattle.std.specs.Prelude.{Result, Ok, Err, MatchResult, List, [], ◌∷◌, codes, length, take, drop, slice_index, bytes_eq}
use Rattle.std.specs.Bool.{then_some}
use Rattle.std.specs.Char.{is_ascii_whitespace}
use Rattle.std.specs.List.{prefix_len, suffix_len}
use Rattle.lexical_base.specs.Ascii.{ByteSet, between}
use Rattle.lexical_base.specs.Digits.{numeral}
use Rattle.lexical_util.specs.Additions.EditMasks.{argument_byte}
use Rattle.lexical_util.specs.Additions.Numeral.{is_numeral}
use Rattle.lexical_util.specs.declared.edits.setters.ArgumentKind.{ArgumentKind}
use Rattle.lexical_util.specs.declared.edits.setters.ArgumentKind.TheVariants as kinds
use Rattle.lexical_util.specs.declared.edits.setters.Edit.{Edit}
use Rattle.lexical_util.specs.declared.edits.setters.Edit.TheVariants as edits
use Rattle.lexical_util.specs.declared.edits.setters.FlagSetter.TheVariants as flags
use Rattle.lexical_util.specs.declared.edits.setters.Setter.{Setter}
use Rattle.lexical_util.specs.declared.edits.setters.Setter.TheVariants as setters
use Rattle.lexical_util.specs.declared.edits.settings.Fault.TheVariants as faults
use Rattle.lexical_util.specs.declared.edits.settings.EditError.{EditError}

-- `name_of setter` is the name of `setter`.
unfoldable pub name_of : Setter → List ℕ
name_of (setters.Flag flags.RequiredIntegerDigits) = codes "required_integer_digits"
name_of (setters.Flag flags.RequiredFractionDigits) = codes "required_fraction_digits"
name_of (setters.Flag flags.RequiredExponentDigits) = codes "required_exponent_digits"
name_of (setters.Flag flags.RequiredMantissaDigits) = codes "required_mantissa_digits"
name_of (setters.Flag flags.NoPositiveMantissaSign) = codes "no_positive_mantissa_sign"
name_of (setters.Flag flags.RequiredMantissaSign) = codes "required_mantissa_sign"
name_of (setters.Flag flags.NoExponentNotation) = codes "no_exponent_notation"
name_of (setters.Flag flags.NoPositiveExponentSign) = codes "no_positive_exponent_sign"
name_of (setters.Flag flags.RequiredExponentSign) = codes "required_exponent_sign"
name_of (setters.Flag flags.NoExponentWithoutFraction) = codes "no_exponent_without_fraction"
name_of (setters.Flag flags.NoSpecial) = codes "no_special"
name_of (setters.Flag flags.CaseSensitiveSpecial) = codes "case_sensitive_special"
name_of (setters.Flag flags.NoIntegerLeadingZeros) = codes "no_integer_leading_zeros"
name_of (setters.Flag flags.NoFloatLeadingZeros) = codes "no_float_leading_zeros"
name_of (setters.Flag flags.RequiredExponentNotation) = codes "required_exponent_notation"
name_of (setters.Flag flags.CaseSensitiveExponent) = codes "case_sensitive_exponent"
name_of (setters.Flag flags.CaseSensitiveBasePrefix) = codes "case_sensitive_base_prefix"
name_of (setters.Flag flags.CaseSensitiveBaseSuffix) = codes "case_sensitive_base_suffix"
name_of (setters.Flag flags.IntegerInternalDigitSeparator) = codes "integer_internal_digit_separator"
name_of (setters.Flag flags.FractionInternalDigitSeparator) = codes "fraction_internal_digit_separator"
name_of (setters.Flag flags.ExponentInternalDigitSeparator) = codes "exponent_internal_digit_separator"
name_of (setters.Flag flags.IntegerLeadingDigitSeparator) = codes "integer_leading_digit_separator"
name_of (setters.Flag flags.FractionLeadingDigitSeparator) = codes "fraction_leading_digit_separator"
name_of (setters.Flag flags.ExponentLeadingDigitSeparator) = codes "exponent_leading_digit_separator"
name_of (setters.Flag flags.IntegerTrailingDigitSeparator) = codes "integer_trailing_digit_separator"
name_of (setters.Flag flags.FractionTrailingDigitSeparator) = codes "fraction_trailing_digit_separator"
name_of (setters.Flag flags.ExponentTrailingDigitSeparator) = codes "exponent_trailing_digit_separator"
name_of (setters.Flag flags.IntegerConsecutiveDigitSeparator) = codes "integer_consecutive_digit_separator"
name_of (setters.Flag flags.FractionConsecutiveDigitSeparator) = codes "fraction_consecutive_digit_separator"
name_of (setters.Flag flags.ExponentConsecutiveDigitSeparator) = codes "exponent_consecutive_digit_separator"
name_of (setters.Flag flags.SpecialDigitSeparator) = codes "special_digit_separator"
name_of (setters.Flag flags.RequiredDigits) = codes "required_digits"
name_of (setters.Flag flags.InternalDigitSeparator) = codes "internal_digit_separator"
name_of (setters.Flag flags.LeadingDigitSeparator) = codes "leading_digit_separator"
name_of (setters.Flag flags.TrailingDigitSeparator) = codes "trailing_digit_separator"
name_of (setters.Flag flags.ConsecutiveDigitSeparator) = codes "consecutive_digit_separator"
name_of (setters.Flag flags.DigitSeparatorFlags) = codes "digit_separator_flags"
name_of (setters.Flag flags.IntegerDigitSeparatorFlags) = codes "integer_digit_separator_flags"
name_of (setters.Flag flags.FractionDigitSeparatorFlags) = codes "fraction_digit_separator_flags"
name_of (setters.Flag flags.ExponentDigitSeparatorFlags) = codes "exponent_digit_separator_flags"
name_of setters.DigitSeparator = codes "digit_separator"
name_of setters.BasePrefix = codes "base_prefix"
name_of setters.BaseSuffix = codes "base_suffix"
name_of setters.MantissaRadix = codes "mantissa_radix"
name_of setters.Radix = codes "radix"
name_of setters.ExponentBase = codes "exponent_base"
name_of setters.ExponentRadix = codes "exponent_radix"

-- `setter_of edit` is the setter that `edit` calls.
abbrev pub setter_of : Edit → Setter
setter_of (edits.Flag setter flag) = setters.Flag setter
setter_of (edits.DigitSeparator byte) = setters.DigitSeparator
setter_of (edits.BasePrefix byte) = setters.BasePrefix
setter_of (edits.BaseSuffix byte) = setters.BaseSuffix
setter_of (edits.MantissaRadix radix) = setters.MantissaRadix
setter_of (edits.Radix radix) = setters.Radix
setter_of (edits.ExponentBase base) = setters.ExponentBase
setter_of (edits.ExponentRadix radix) = setters.ExponentRadix

-- `kind_of setter` is the kind of argument that `setter` takes.
abbrev pub kind_of : Setter → ArgumentKind
kind_of (setters.Flag setter) = kinds.Flag
kind_of setters.MantissaRadix = kinds.Number
kind_of setters.Radix = kinds.Number
kind_of setters.ExponentBase = kinds.OptionalNumber
kind_of setters.ExponentRadix = kinds.OptionalNumber
kind_of _ = kinds.OptionalCharacter

-- `IsCall setter byte edit` holds if `edit` calls `setter` with the argument that `byte` represents.
abbrev pub IsCall : Setter → ℕ → Edit → Type 0
IsCall setter byte edit = (setter_of edit ≡ setter) × (argument_byte edit ≡ byte)

-- `takes_flag setter` is true if `setter` takes a flag.
abbrev pub takes_flag : Setter → Bool
takes_flag (setters.Flag setter) = true
takes_flag _ = false

-- `byte_of_digits radix most digits` is the number that `digits` represent, if they are 1 to `most` digits of `radix` and
-- the number is at most 255.
abbrev pub byte_of_digits : ℕ → ℕ → List ℕ → Option ℕ
byte_of_digits radix most digits =
    then_some (is_numeral radix most digits && nat_lt (numeral radix digits) 256) (numeral radix digits)

-- `byte_of_number text` is the number that `text` represents in one or two hexadecimal digits after `0x`, or in one to
-- three decimal digits.
abbrev pub byte_of_number : List ℕ → Option ℕ
byte_of_number text =
    if bytes_eq (take 2 text) (codes "0x") then byte_of_digits 16 2 (drop 2 text) else byte_of_digits 10 3 text

-- `byte_of_character text` is the character between two single quotes, which is ASCII and not a control character, or
-- the byte that `text` represents as a number.
abbrev pub byte_of_character : List ℕ → Option ℕ
byte_of_character text =
    if bytes_eq text (39 ∷ slice_index text 1 ∷ 39 ∷ []) && between 32 126 (slice_index text 1)
    then Some (slice_index text 1) else byte_of_number text

-- `byte_of_value kind value` is the argument of this kind, as a byte, that the text `value` represents.
abbrev pub byte_of_value : ArgumentKind → List ℕ → Option ℕ
byte_of_value kinds.Flag value =
    if bytes_eq value (codes "true") then Some 1 else if bytes_eq value (codes "false") then Some 0 else None
byte_of_value kinds.OptionalCharacter value = if bytes_eq value (codes "none") then Some 0 else byte_of_character value
byte_of_value kinds.Number value = byte_of_number value
byte_of_value kinds.OptionalNumber value = if bytes_eq value (codes "none") then Some 0 else byte_of_number value

-- `unindented text` is `text` without the white space at its start, and `trimmed text` is `text` without that at both ends.
-- White space is the bytes 9, 10, 12, 13 and 32.
abbrev pub unindented : List ℕ → List ℕ
unindented text = drop (prefix_len is_ascii_whitespace text) text

abbrev pub trimmed : List ℕ → List ℕ
trimmed text = take (length (unindented text) - suffix_len is_ascii_whitespace (unindented text)) (unindented text)

-- `is_equals` is the set that contains only the byte of the character `=`.
abbrev pub is_equals : ByteSet
is_equals byte = byte == 61

-- `no_equals`, `unknown_name nearest` and `bad_value setter` are the errors of a text without `=`, of a name that no setter
-- has, with the setter that the message suggests, if any, and of a value that `setter` does not take.
abbrev pub no_equals : EditError
no_equals = record { 0 = faults.NoEquals }

abbrev pub unknown_name : Option Setter → EditError
unknown_name nearest = record { 0 = faults.UnknownName nearest }

abbrev pub bad_value : Setter → EditError
bad_value setter = record { 0 = faults.BadValue setter }

-- `IsParsed setter value result` holds if `result` is an edit that calls `setter` with the argument that `value`
-- represents, or the error `bad_value setter` if it represents none.
abbrev pub IsParsed : Setter → List ℕ → Result Edit EditError → Type 0
IsParsed setter value (Ok edit) =
    (setter_of edit ≡ setter) × (byte_of_value (kind_of setter) value ≡ Some (argument_byte edit))
IsParsed setter value (Err error) = (error ≡ bad_value setter) × (byte_of_value (kind_of setter) value ≡ None)

-- `IsNoName name` holds if no setter has the name `name`.
abbrev pub IsNoName : List ℕ → Type 0
IsNoName name = (setter : Setter) → name_of setter ≢ name

-- `IsSetting name value result` holds if `result` is what the setter with the name `name` makes of `value`, or the error
-- of an unknown name, whatever its message suggests, if no setter has the name.
pub record IsSetting (name value : List ℕ) (result : Result Edit EditError) : Type 0 where
  pub unknown : IsNoName name
      → MatchResult result (λ edit. ⊥) (λ error. (nearest : Option Setter) × (error ≡ unknown_name nearest))
  pub known : (setter : Setter) → name_of setter ≡ name → IsParsed setter value result
