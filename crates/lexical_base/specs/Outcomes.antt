-- The table of the 49 outcomes, for `rank`, `description`, `index`, `class` and `Display` of `Error`.
use Rattle.std.specs.Prelude.{ℕ, ◌≡◌, ◌+◌, ◌++◌, List, [], Option, Some, None, IsSome, codes, nat_lt}
use Rattle.std.specs.Prelude.{if◌then◌else◌, unwrap_or}
use Rattle.std.specs.Fmt.{decimal}
use Rattle.lexical_base.specs.declared.error.Error.{Error}
use Rattle.lexical_base.specs.declared.error.Error.TheVariants as outcomes
use Rattle.lexical_base.specs.declared.error.Class.{Class}
use Rattle.lexical_base.specs.declared.error.Class.TheVariants as classes

-- `rank_of error` is the rank of the outcome `error`: its index in the table of the 49 outcomes.
abbrev pub rank_of : Error → ℕ
rank_of (outcomes.Overflow _) = 0
rank_of (outcomes.Underflow _) = 1
rank_of (outcomes.InvalidDigit _) = 2
rank_of (outcomes.Empty _) = 3
rank_of (outcomes.EmptyMantissa _) = 4
rank_of (outcomes.EmptyExponent _) = 5
rank_of (outcomes.EmptyInteger _) = 6
rank_of (outcomes.EmptyFraction _) = 7
rank_of (outcomes.InvalidPositiveMantissaSign _) = 8
rank_of (outcomes.MissingMantissaSign _) = 9
rank_of (outcomes.InvalidExponent _) = 10
rank_of (outcomes.InvalidPositiveExponentSign _) = 11
rank_of (outcomes.MissingExponentSign _) = 12
rank_of (outcomes.ExponentWithoutFraction _) = 13
rank_of (outcomes.InvalidLeadingZeros _) = 14
rank_of (outcomes.MissingExponent _) = 15
rank_of (outcomes.MissingSign _) = 16
rank_of (outcomes.InvalidPositiveSign _) = 17
rank_of (outcomes.InvalidNegativeSign _) = 18
rank_of outcomes.InvalidMantissaRadix = 19
rank_of outcomes.InvalidExponentBase = 20
rank_of outcomes.InvalidExponentRadix = 21
rank_of outcomes.InvalidDigitSeparator = 22
rank_of outcomes.InvalidDecimalPoint = 23
rank_of outcomes.InvalidExponentSymbol = 24
rank_of outcomes.InvalidBasePrefix = 25
rank_of outcomes.InvalidBaseSuffix = 26
rank_of outcomes.InvalidPunctuation = 27
rank_of outcomes.InvalidExponentFlags = 28
rank_of outcomes.InvalidMantissaSign = 29
rank_of outcomes.InvalidExponentSign = 30
rank_of outcomes.InvalidSpecial = 31
rank_of outcomes.InvalidConsecutiveIntegerDigitSeparator = 32
rank_of outcomes.InvalidConsecutiveFractionDigitSeparator = 33
rank_of outcomes.InvalidConsecutiveExponentDigitSeparator = 34
rank_of outcomes.InvalidFlags = 35
rank_of outcomes.InvalidNanString = 36
rank_of outcomes.NanStringTooLong = 37
rank_of outcomes.InvalidInfString = 38
rank_of outcomes.InfStringTooLong = 39
rank_of outcomes.InvalidInfinityString = 40
rank_of outcomes.InfinityStringTooLong = 41
rank_of outcomes.InfinityStringTooShort = 42
rank_of outcomes.InvalidFloatParseAlgorithm = 43
rank_of outcomes.InvalidRadix = 44
rank_of outcomes.InvalidFloatPrecision = 45
rank_of outcomes.InvalidNegativeExponentBreak = 46
rank_of outcomes.InvalidPositiveExponentBreak = 47
rank_of outcomes.Success = 48

-- `index_of error` is `Some` of the index that the parse error `error` holds, and `None` for every other outcome.
abbrev pub index_of : Error → Option ℕ
index_of (outcomes.Overflow index) = Some index
index_of (outcomes.Underflow index) = Some index
index_of (outcomes.InvalidDigit index) = Some index
index_of (outcomes.Empty index) = Some index
index_of (outcomes.EmptyMantissa index) = Some index
index_of (outcomes.EmptyExponent index) = Some index
index_of (outcomes.EmptyInteger index) = Some index
index_of (outcomes.EmptyFraction index) = Some index
index_of (outcomes.InvalidPositiveMantissaSign index) = Some index
index_of (outcomes.MissingMantissaSign index) = Some index
index_of (outcomes.InvalidExponent index) = Some index
index_of (outcomes.InvalidPositiveExponentSign index) = Some index
index_of (outcomes.MissingExponentSign index) = Some index
index_of (outcomes.ExponentWithoutFraction index) = Some index
index_of (outcomes.InvalidLeadingZeros index) = Some index
index_of (outcomes.MissingExponent index) = Some index
index_of (outcomes.MissingSign index) = Some index
index_of (outcomes.InvalidPositiveSign index) = Some index
index_of (outcomes.InvalidNegativeSign index) = Some index
index_of _ = None

-- `description_of error` is the text that describes the outcome `error`, without the index that it holds.
abbrev pub description_of : Error → List ℕ
description_of (outcomes.Overflow _) = codes "'numeric overflow occurred'"
description_of (outcomes.Underflow _) = codes "'numeric underflow occurred'"
description_of (outcomes.InvalidDigit _) = codes "'invalid digit found'"
description_of (outcomes.Empty _) = codes "'the string to parse was empty'"
description_of (outcomes.EmptyMantissa _) = codes "'no significant digits found'"
description_of (outcomes.EmptyExponent _) = codes "'exponent notation found without an exponent'"
description_of (outcomes.EmptyInteger _) = codes "'invalid float with no integer digits'"
description_of (outcomes.EmptyFraction _) = codes "'invalid float with no fraction digits'"
description_of (outcomes.InvalidPositiveMantissaSign _) = codes "'invalid `+` sign before significant digits'"
description_of (outcomes.MissingMantissaSign _) = codes "'missing required `+/-` sign for significant digits'"
description_of (outcomes.InvalidExponent _) = codes "'exponent found but not allowed'"
description_of (outcomes.InvalidPositiveExponentSign _) = codes "'invalid `+` sign in exponent'"
description_of (outcomes.MissingExponentSign _) = codes "'missing required `+/-` sign for exponent'"
description_of (outcomes.ExponentWithoutFraction _) = codes "'invalid float containing exponent without fraction'"
description_of (outcomes.InvalidLeadingZeros _) = codes "'invalid number with leading zeros before digits'"
description_of (outcomes.MissingExponent _) = codes "'missing required exponent'"
description_of (outcomes.MissingSign _) = codes "'missing required `+/-` sign for integer'"
description_of (outcomes.InvalidPositiveSign _) = codes "'invalid `+` sign for an integer was found'"
description_of (outcomes.InvalidNegativeSign _) = codes "'invalid `-` sign for an unsigned type was found'"
description_of outcomes.InvalidMantissaRadix = codes "'invalid radix for mantissa digits'"
description_of outcomes.InvalidExponentBase = codes "'invalid exponent base'"
description_of outcomes.InvalidExponentRadix = codes "'invalid radix for exponent digits'"
description_of outcomes.InvalidDigitSeparator =
    codes "'invalid digit separator: must be ASCII and not a digit or a `+/-` sign'"
description_of outcomes.InvalidDecimalPoint =
    codes "'invalid decimal point: must be ASCII and not a digit or a `+/-` sign'"
description_of outcomes.InvalidExponentSymbol =
    codes "'invalid exponent symbol: must be ASCII and not a digit or a `+/-` sign'"
description_of outcomes.InvalidBasePrefix = codes "'invalid base prefix character'"
description_of outcomes.InvalidBaseSuffix = codes "'invalid base suffix character'"
description_of outcomes.InvalidPunctuation = codes "'invalid punctuation: multiple characters overlap'"
description_of outcomes.InvalidExponentFlags = codes "'exponent flags set while disabling exponent notation'"
description_of outcomes.InvalidMantissaSign =
    codes "'disabled the `+` sign while requiring a sign for significant digits'"
description_of outcomes.InvalidExponentSign = codes "'disabled the `+` sign while requiring a sign for exponent digits'"
description_of outcomes.InvalidSpecial = codes "'special flags set while disabling special floats'"
description_of outcomes.InvalidConsecutiveIntegerDigitSeparator =
    codes "'enabled consecutive digit separators in the integer without setting a valid location'"
description_of outcomes.InvalidConsecutiveFractionDigitSeparator =
    codes "'enabled consecutive digit separators in the fraction without setting a valid location'"
description_of outcomes.InvalidConsecutiveExponentDigitSeparator =
    codes "'enabled consecutive digit separators in the exponent without setting a valid location'"
description_of outcomes.InvalidFlags = codes "'invalid flags enabled without the format feature'"
description_of outcomes.InvalidNanString = codes "'NaN string must started with `n`'"
description_of outcomes.NanStringTooLong = codes "'NaN string is too long'"
description_of outcomes.InvalidInfString = codes "'short infinity string must started with `i`'"
description_of outcomes.InfStringTooLong = codes "'short infinity string is too long'"
description_of outcomes.InvalidInfinityString = codes "'long infinity string must started with `i`'"
description_of outcomes.InfinityStringTooLong = codes "'long infinity string is too long'"
description_of outcomes.InfinityStringTooShort = codes "'long infinity string is too short'"
description_of outcomes.InvalidFloatParseAlgorithm = codes "'invalid combination of float parse algorithms'"
description_of outcomes.InvalidRadix = codes "'invalid radix for significant digits'"
description_of outcomes.InvalidFloatPrecision = codes "'invalid float precision: min digits is larger than max digits'"
description_of outcomes.InvalidNegativeExponentBreak = codes "'invalid negative exponent break: value is above 0'"
description_of outcomes.InvalidPositiveExponentBreak = codes "'invalid positive exponent break: value is below 0'"
description_of outcomes.Success = codes "'not actually an error'"

-- `held_index error` is the index that the parse error `error` holds, and 0 for every other outcome.
abbrev pub held_index : Error → ℕ
held_index error = unwrap_or (index_of error) 0

-- `IsAt index error` holds if the outcome `error` holds the index `index`, or if it holds no index.
abbrev pub IsAt : ℕ → Error → Type 0
IsAt index error = IsSome (index_of error) → index_of error ≡ Some index

-- `class_of error` is the class of the outcome `error`. In the order of their ranks, the outcomes are 19 parse errors,
-- 17 format errors, 12 option errors and `Success`.
abbrev pub class_of : Error → Class
class_of error =
    if nat_lt (rank_of error) 19 then classes.Parse
    else if nat_lt (rank_of error) (19 + 17) then classes.Format
    else if nat_lt (rank_of error) (19 + 17 + 12) then classes.Options
    else classes.Success

-- `start_of_class class` is the text with which `Display` begins for an outcome of the class `class`.
abbrev pub start_of_class : Class → List ℕ
start_of_class classes.Parse = codes "lexical parse error: "
start_of_class classes.Format = codes "lexical number format error: "
start_of_class classes.Options = codes "lexical options error: "
start_of_class classes.Success = []

-- `end_of_text index` is the text with which `Display` ends if the outcome holds `index`. It is empty if `index` is
-- `None`.
abbrev pub end_of_text : Option ℕ → List ℕ
end_of_text (Some index) = codes " at index " ++ decimal index
end_of_text None = []

-- `printed_text error` is the text that `Display` prints for the outcome `error`.
abbrev pub printed_text : Error → List ℕ
printed_text error = start_of_class (class_of error) ++ (description_of error ++ end_of_text (index_of error))
