-- Lemmas on the rules after filling and trimming. Filled fields satisfy the same rules. Trimmed fields satisfy all
-- rules that they kept before, and so does a clean word with such fields.
use Rattle.lexical_flags.proofs.Common.{◌≡◌, ℕ, ◌⊎◌, ◌↔◌, inl, ◌||◌, true, IsTrue, refl, sym, ap, subst, arith, false≢true, nat_tests, ByteSet, allowed_ascii}
use Rattle.lexical_flags.proofs.Common.{Error, IsClean, Record, raw, fill, trim, effective, separator_allowed, signs, digits_of, Rule, IsRadix}
use Rattle.lexical_flags.proofs.Common.{IsAbsentOrPunctuation, shape_of}
use Rattle.std.proofs.lemmas.Bool.{cases_Bool, cond-false}
use Rattle.lexical_flags.specs.Record.{set_byte, SeparatorAllowedOrAbsent}
use Rattle.lexical_flags.specs.Roles.{Disjoint, cased, prefix, suffix}
use Rattle.lexical_flags.specs.Rules.{IsPunctuation, Holds, IsErrorOf, Lawful}
use Rattle.lexical_flags.specs.Layout as layout
use Rattle.lexical_flags.specs.declared.format_flags.rule.Rule.TheVariants as rules
use Rattle.lexical_flags.proofs.DisjointLemmas.{Disjoint-from}
use Rattle.lexical_flags.proofs.RuleFieldLemmas.{FieldsMeet, kept_alike}
use Rattle.lexical_flags.proofs.Packing.{trim-same}
use Rattle.lexical_flags.proofs.RuleLemmas.{Holds-from_lawful, Lawful-from_all, IsErrorOf-same, one_error}

-- Filling twice is filling once.
pub fill_once : (own radix : ℕ) → effective (effective own radix) radix ≡ effective own radix
fill_once own radix = grind (arith, nat_tests)

IsAbsentOrPunctuation-fill : (r : Record) (byte : ℕ) → IsAbsentOrPunctuation (fill r) byte ≡ IsAbsentOrPunctuation r byte
unfolding IsPunctuation
IsAbsentOrPunctuation-fill r byte = ap (λ radix. (byte ≡ 0) ⊎ (IsTrue (allowed_ascii byte)
    × (IsTrue (digits_of (r.byte layout.mantissa_radix) byte || digits_of radix byte) → ⊥) × (IsTrue (signs byte) → ⊥)))
    (fill_once (r.byte layout.exponent_radix) (r.byte layout.mantissa_radix))

-- The demand of a rule on the filled record is its demand on the record.
Demands-fill : (rule : Rule) (r : Record) → FieldsMeet (shape_of rule) (fill r) ≡ FieldsMeet (shape_of rule) r
Demands-fill rules.MantissaRadixInRange r = refl
Demands-fill rules.ExponentBaseInRange r = ap IsRadix (fill_once (r.byte layout.exponent_base) (r.byte layout.mantissa_radix))
Demands-fill rules.ExponentRadixInRange r = ap IsRadix (fill_once (r.byte layout.exponent_radix) (r.byte layout.mantissa_radix))
Demands-fill rules.DigitSeparatorIsPunctuation r = IsAbsentOrPunctuation-fill r (r.byte layout.digit_separator)
Demands-fill rules.BasePrefixIsPunctuation r = IsAbsentOrPunctuation-fill r (r.byte layout.base_prefix)
Demands-fill rules.BaseSuffixIsPunctuation r = IsAbsentOrPunctuation-fill r (r.byte layout.base_suffix)
Demands-fill _ r = refl

Disjoint-nothing : (A : ByteSet) → Disjoint (cased true 0) A
unfolding cased
Disjoint-nothing A = Disjoint-from _ _ (λ byte below is_zero in_a. absurd (false≢true is_zero))

-- If a record satisfies a rule, then so does the record without its separator.
pub Demands-bare : (rule : Rule) (r : Record) → FieldsMeet (shape_of rule) r → FieldsMeet (shape_of rule) (set_byte r layout.digit_separator 0)
unfolding IsPunctuation
Demands-bare rules.MantissaRadixInRange r h = h
Demands-bare rules.DigitSeparatorIsPunctuation r h = inl refl
Demands-bare rules.PunctuationDiffers r h = ((Disjoint-nothing (prefix r), (Disjoint-nothing (suffix r), tt)), h.1)
Demands-bare _ r h = h

pub Demands-trim : (rule : Rule) (r : Record) → FieldsMeet (shape_of rule) r → FieldsMeet (shape_of rule) (trim r)
Demands-trim rule r h = grind (arith, nat_tests, cases_Bool, separator_allowed, shape_of, trim-same, cond-false, Demands-bare)

-- If a record satisfies a rule, then so does the filled and trimmed record.
pub Demands-kept : (rule : Rule) (r : Record) → FieldsMeet (shape_of rule) r → FieldsMeet (shape_of rule) (trim (fill r))
Demands-kept rule r h = Demands-trim rule (fill r) (subst (λ X. X) (sym (Demands-fill rule r)) h)

-- If no separator is dropped, then a record satisfies a rule if and only if the filled and trimmed record does.
pub Demands-same : (rule : Rule) (r : Record) → SeparatorAllowedOrAbsent r → FieldsMeet (shape_of rule) r ↔ FieldsMeet (shape_of rule) (trim (fill r))
Demands-same rule r used = (Demands-kept rule r, λ h. subst (λ X. X) (Demands-fill rule r) (subst (FieldsMeet (shape_of rule)) (trim-same (fill r) used) h))

-- In this section, `normal` is a clean word with the filled and trimmed fields of `word`.
module _ (word normal : ℕ) (clean : IsClean normal) (fields : raw normal ≡ trim (fill (raw word))) where
  -- If `word` satisfies a rule, then so does `normal`.
  Holds-kept : (rule : Rule) → Holds rule word → Holds rule normal
  unfolding Holds
  Holds-kept rules.ReservedBitsAreZero h = clean
  Holds-kept rule h = subst (FieldsMeet (shape_of rule)) (sym fields) (Demands-kept rule (raw word) h)

  -- If `word` is lawful, then so is `normal`.
  pub Lawful-kept : Lawful word → Lawful normal
  Lawful-kept h = Lawful-from_all normal (λ rule. Holds-kept rule (Holds-from_lawful rule word h))

  -- If nothing was dropped from `word` and `normal` satisfies a rule, then so does `word`.
  Holds-back : IsClean word → SeparatorAllowedOrAbsent (raw word) → (rule : Rule) → Holds rule normal → Holds rule word
  unfolding Holds
  Holds-back whole used rules.ReservedBitsAreZero h = whole
  Holds-back whole used rule h = (Demands-same rule (raw word) used).1 (subst (FieldsMeet (shape_of rule)) fields h)

  -- If nothing was dropped from `word`, then `word` and `normal` have the same error.
  pub IsErrorOf-kept : IsClean word → SeparatorAllowedOrAbsent (raw word) → (error : Error) → IsErrorOf word error ↔ IsErrorOf normal error
  IsErrorOf-kept whole used = IsErrorOf-same word normal (λ rule. (Holds-kept rule, Holds-back whole used rule))

-- `rule_laws` are what `rule_facts` states.
pub ruleset rule_laws = (Lawful-kept, IsErrorOf-kept, Holds-from_lawful, Lawful-from_all, kept_alike, one_error)
