-- The rules, and the error of the first rule that a word breaks.
use Rattle.std.specs.Prelude.{ℕ, Bool, not, ◌≡◌, ◌≤◌, ◌⊎◌, ◌&&◌, ◌||◌, IsTrue, IsFalse, List, [], ◌∷◌, ◌++◌}
use Rattle.std.specs.List.{AllByRecursion}
use Rattle.lexical_base.specs.Ascii.{allowed_ascii}
use Rattle.lexical_base.specs.declared.error.Error.{Error}
use Rattle.lexical_base.specs.declared.error.Error.TheVariants as errors
use Rattle.lexical_flags.specs.Layout as layout
use Rattle.lexical_flags.specs.declared.format_flags.rule.Rule.{Rule}
use Rattle.lexical_flags.specs.declared.format_flags.rule.Rule.TheVariants as rules
use Rattle.lexical_flags.specs.Layout.{IsClean, Flag, Byte, separators_in}
use Rattle.lexical_flags.specs.Layout.{no_exponent_notation, required_exponent_notation, no_positive_mantissa_sign}
use Rattle.lexical_flags.specs.Layout.{required_mantissa_sign, no_positive_exponent_sign, required_exponent_sign}
use Rattle.lexical_flags.specs.Layout.{no_special, case_sensitive_special, special_digit_separator}
use Rattle.lexical_flags.specs.declared.format_flags.parts.Part.{Part}
use Rattle.lexical_flags.specs.declared.format_flags.parts.Part.TheVariants as parts
use Rattle.lexical_flags.specs.Record.{Record, raw, effective, effective_exponent_base, effective_exponent_radix}
use Rattle.lexical_flags.specs.Roles.{AreDisjoint, digits, signs, format_roles, five_roles}

-- `IsRadix radix` holds if `radix` is between 2 and 36, inclusive.
abbrev pub IsRadix : ℕ → Type 0
IsRadix radix = (2 ≤ radix) × (radix ≤ 36)

-- `IsPunctuation r byte` holds if `byte` is allowed ASCII, but neither a digit of `r` nor a sign.
unfoldable pub IsPunctuation : Record → ℕ → Type 0
IsPunctuation r byte = IsTrue (allowed_ascii byte) × (IsTrue (digits r byte) → ⊥) × (IsTrue (signs byte) → ⊥)

-- `IsAbsentOrPunctuation r byte` holds if `byte` is 0, which means absent, or punctuation in the format `r`.
abbrev pub IsAbsentOrPunctuation : Record → ℕ → Type 0
IsAbsentOrPunctuation r byte = (byte ≡ 0) ⊎ IsPunctuation r byte

-- `IsTextOrNone byte` holds if `byte` is 0, which means absent, or allowed ASCII.
abbrev pub IsTextOrNone : ℕ → Type 0
IsTextOrNone byte = (byte ≡ 0) ⊎ IsTrue (allowed_ascii byte)

-- `Shape` is the type of what a rule demands of the fields that are its arguments, or of the reserved bits.
pub data Shape : Type 0 where
  radix_in_range : Byte → Shape
  absent_or_punctuation : Byte → Shape
  roles_differ : Shape
  not_both : Flag → Flag → Shape
  position_allowed : Part → Shape
  reserved_zero : Shape

-- `meaning rule` is what `rule` demands, and the error of a word whose first broken rule is `rule`.
abbrev pub meaning : Rule → Shape × Error
meaning rules.MantissaRadixInRange = (radix_in_range layout.mantissa_radix, errors.InvalidMantissaRadix)
meaning rules.ExponentBaseInRange = (radix_in_range layout.exponent_base, errors.InvalidExponentBase)
meaning rules.ExponentRadixInRange = (radix_in_range layout.exponent_radix, errors.InvalidExponentRadix)
meaning rules.DigitSeparatorIsPunctuation = (absent_or_punctuation layout.digit_separator, errors.InvalidDigitSeparator)
meaning rules.BasePrefixIsPunctuation = (absent_or_punctuation layout.base_prefix, errors.InvalidBasePrefix)
meaning rules.BaseSuffixIsPunctuation = (absent_or_punctuation layout.base_suffix, errors.InvalidBaseSuffix)
meaning rules.PunctuationDiffers = (roles_differ, errors.InvalidPunctuation)
meaning rules.ExponentFlagsAgree = (not_both no_exponent_notation required_exponent_notation, errors.InvalidExponentFlags)
meaning rules.MantissaSignFlagsAgree = (not_both no_positive_mantissa_sign required_mantissa_sign, errors.InvalidMantissaSign)
meaning rules.ExponentSignFlagsAgree = (not_both no_positive_exponent_sign required_exponent_sign, errors.InvalidExponentSign)
meaning rules.SpecialCaseFlagsAgree = (not_both no_special case_sensitive_special, errors.InvalidSpecial)
meaning rules.SpecialSeparatorFlagsAgree = (not_both no_special special_digit_separator, errors.InvalidSpecial)
meaning rules.IntegerConsecutiveIsAllowed = (position_allowed parts.Integer, errors.InvalidConsecutiveIntegerDigitSeparator)
meaning rules.FractionConsecutiveIsAllowed = (position_allowed parts.Fraction, errors.InvalidConsecutiveFractionDigitSeparator)
meaning rules.ExponentConsecutiveIsAllowed = (position_allowed parts.Exponent, errors.InvalidConsecutiveExponentDigitSeparator)
meaning rules.ReservedBitsAreZero = (reserved_zero, errors.InvalidFlags)

-- `shape_of rule` is what `rule` demands.
abbrev pub shape_of : Rule → Shape
shape_of rule = (meaning rule).0

-- `error_of rule` is the error of a word whose first broken rule is `rule`.
abbrev pub error_of : Rule → Error
error_of rule = (meaning rule).1

-- `lacks_position r part` is true if `r` allows consecutive digit separators in `part`, but no digit separator between,
-- before or after its digits.
abbrev pub lacks_position : Record → Part → Bool
lacks_position r part =
    let own = separators_in part in
    r.flag own.consecutive && not (r.flag own.internal || r.flag own.leading || r.flag own.trailing)

-- `Meets shape word` holds if `word` is as `shape` demands.
abbrev pub Meets : Shape → ℕ → Type 0
Meets (radix_in_range byte) word = IsRadix (effective ((raw word).byte byte) ((raw word).byte layout.mantissa_radix))
Meets (absent_or_punctuation byte) word = IsAbsentOrPunctuation (raw word) ((raw word).byte byte)
Meets roles_differ word = AreDisjoint (format_roles (raw word))
Meets (not_both a b) word = IsFalse ((raw word).flag a && (raw word).flag b)
Meets (position_allowed part) word = IsFalse (lacks_position (raw word) part)
Meets reserved_zero word = IsClean word

-- `Holds rule word` holds if `word` satisfies `rule`.
unfoldable pub Holds : Rule → ℕ → Type 0
Holds rule word = Meets (shape_of rule) word

-- `radix_rules` lists the radix rules, in order.
abbrev pub radix_rules : List Rule
radix_rules = rules.MantissaRadixInRange ∷ rules.ExponentBaseInRange ∷ rules.ExponentRadixInRange ∷ []

-- `punctuation_rules` lists the punctuation rules, in order.
abbrev pub punctuation_rules : List Rule
punctuation_rules =
    rules.DigitSeparatorIsPunctuation ∷ rules.BasePrefixIsPunctuation ∷ rules.BaseSuffixIsPunctuation ∷ rules.PunctuationDiffers ∷ []

-- `flag_rules` lists the flag rules, in order.
abbrev pub flag_rules : List Rule
flag_rules =
    rules.ExponentFlagsAgree ∷ rules.MantissaSignFlagsAgree ∷ rules.ExponentSignFlagsAgree ∷
    rules.SpecialCaseFlagsAgree ∷ rules.SpecialSeparatorFlagsAgree ∷ rules.IntegerConsecutiveIsAllowed ∷
    rules.FractionConsecutiveIsAllowed ∷ rules.ExponentConsecutiveIsAllowed ∷ []

-- `rules_in_order` lists all rules, in order.
abbrev pub rules_in_order : List Rule
rules_in_order = radix_rules ++ punctuation_rules ++ flag_rules ++ rules.ReservedBitsAreZero ∷ []

-- `ErrorUnless demand own next error` holds if `demand` fails and `error` is `own`, or `demand` and `next error` hold.
abbrev pub ErrorUnless : Type 0 → Error → (Error → Type 0) → Error → Type 0
ErrorUnless demand own next error = ((demand → ⊥) × (error ≡ own)) ⊎ (demand × next error)

-- `IsFirstError rules word error` holds if `error` is that of the first of `rules` that `word` breaks, or `Success`.
abbrev pub IsFirstError : List Rule → ℕ → Error → Type 0
IsFirstError [] word error = error ≡ errors.Success
IsFirstError (rule ∷ rules) word error = ErrorUnless (Holds rule word) (error_of rule) (IsFirstError rules word) error

-- `IsErrorOf word error` holds if `error` is the error of the first rule that `word` breaks, or `Success` if all hold.
unfoldable pub IsErrorOf : ℕ → Error → Type 0
IsErrorOf word error = IsFirstError rules_in_order word error

-- `LawfulParts word` holds if the radixes of `word` are in range, its flags agree, every other byte is absent or
-- allowed ASCII, no byte plays two roles, and the reserved bits are 0.
pub record LawfulParts (word : ℕ) : Type 0 where
  pub mantissa_radix : IsRadix ((raw word).byte layout.mantissa_radix)
  pub exponent_base : IsRadix (effective_exponent_base (raw word))
  pub exponent_radix : IsRadix (effective_exponent_radix (raw word))
  pub flags : AllByRecursion (λ rule. Holds rule word) flag_rules
  pub digit_separator : IsTextOrNone ((raw word).byte layout.digit_separator)
  pub base_prefix : IsTextOrNone ((raw word).byte layout.base_prefix)
  pub base_suffix : IsTextOrNone ((raw word).byte layout.base_suffix)
  pub roles : AreDisjoint (five_roles (raw word))
  pub clean : IsClean word

-- `Lawful word` holds if `LawfulParts word` holds, that is, if `word` satisfies every rule.
unfoldable pub Lawful : ℕ → Type 0
Lawful word = LawfulParts word
