-- In a syntax, no byte plays two roles.
use Rattle.lexical_literal.proofs.Common.{AllByRecursion, Bool, ByteSet, Condition, Conditions, Grammar, HasRoles, HasSizes, IsReady, IsTrue, List, None}
use Rattle.lexical_literal.proofs.Common.{Option, Options, Part, Record, Role, Some, [], all_conditions, allowed_ascii, and_from, arith}
use Rattle.lexical_literal.proofs.Common.{contradiction, exponent_character_of, false, false≢true, first_fault, has}
use Rattle.lexical_literal.proofs.Common.{lacks_options, lt-ltb, nat_le, nat_lt, nat_tests, not, notation_of, number_of, option_map, option_or, point_of}
use Rattle.lexical_literal.proofs.Common.{radix_of, raw, refl, set_of_role, steps_of, sym, true, ℕ, ◌<◌, ◌==◌, ◌↔◌, ◌∷◌, ◌≡◌}
use Rattle.lexical_flags.specs.Rules.{Meets, shape_of}
use Rattle.lexical_flags.specs.declared.format_flags.rule.Rule.{Rule}
use Rattle.lexical_flags.specs.Record.{separator_allowed}
use Rattle.lexical_util.specs.Options.{OptionsFit, OptionsHaveOneRole}
use Rattle.lexical_literal.specs.Additions.Fields.{exponent_in, point_in}
use Rattle.lexical_util.specs.Unfoldable.{Disjoint, Holds, Lawful, byte_value, cased}
use Rattle.lexical_literal.specs.declared.syntax.ConditionsError.{ConditionsError}
use Rattle.lexical_literal.specs.Syntax.{FitIfAny, IsSyntax, fault, missing}
use Rattle.lexical_flags.proofs.RuleLemmas.{Holds-from_lawful}
use Rattle.lexical_flags.specs.declared.format_flags.rule.Rule.TheVariants as rules
use Rattle.lexical_util.specs.Additions.ByteRoles as bytes
use Rattle.lexical_util.specs.Layout as layout
use Rattle.lexical_util.specs.Roles as sets
use Rattle.lexical_util.specs.declared.format_flags.Part.TheVariants as parts
use Rattle.lexical_util.proofs.ByteRoleLemmas.{AreApart, apart_from, one_role}
use Rattle.lexical_literal.specs.declared.syntax.Condition.TheVariants as conditions
use Rattle.lexical_literal.proofs.RefusalLemmas.{other_roles}

-- A byte that plays a role of a syntax plays it in the format with the options.
own : (word : ℕ) → Lawful word → (o : Option Options) (conditions : Conditions) (role : Role) (byte : ℕ)
    → IsTrue (set_of_role (notation_of (record { word = word; options = o; conditions = conditions })) role byte)
    → IsTrue (bytes.role_set (raw word) (exponent_in o) (point_in o) role byte)
unfolding Lawful
own word lawful o conditions role byte is = grind (arith, nat_tests, false≢true)

-- A byte that is not 0 plays the role for which it is chosen.
cased_own : (counts : Bool) (own : ℕ) → IsTrue (allowed_ascii own) → cased counts own own ≡ true
unfolding cased
cased_own counts own is = grind (arith, nat_tests)

cased_present : (counts : Bool) (own : ℕ) → (own == 0) ≡ false → cased counts own own ≡ true
unfolding cased
cased_present counts own some = grind (arith, nat_tests)

-- What the conditions require is possible.
module _ (r : Record) (c : Conditions) (none : contradiction r c ≡ None) where
  has_prefix : has c conditions.BasePrefix ≡ true → (r.byte layout.base_prefix == 0) ≡ false
  unfolding fault
  has_prefix set = grind (arith, nat_tests)

  has_suffix : has c conditions.BaseSuffix ≡ true → (r.byte layout.base_suffix == 0) ≡ false
  unfolding fault
  has_suffix set = grind (arith, nat_tests)

  both_none : (a b : Option ConditionsError) → option_or a b ≡ None → (a ≡ None) × (b ≡ None)
  both_none x0 b is = grind arith

  each_none : (ds : List Condition) → first_fault r c ds ≡ None → AllByRecursion (λ d. fault r c d ≡ None) ds
  each_none [] is = tt
  each_none (d ∷ ds) is = let both = both_none (fault r c d) (first_fault r c ds) is in (both.0, each_none ds both.1)

  not_missing : (d : Condition) → has c d ≡ true → fault r c d ≡ None → missing r c d ≡ None
  unfolding fault
  not_missing d set is = grind (arith, nat_tests, has, nat_le, number_of, option_map)

  -- An integer whose groups have sizes may have separators between digits.
  separator_of : missing r c conditions.IntegerGroupSize ≡ None
      → (r.flag layout.integer_internal_digit_separator ≡ true) × ((r.byte layout.digit_separator == 0) ≡ false)
  separator_of is = grind arith

  integer_separator : has c conditions.IntegerGroupSize ≡ true
      → (r.flag layout.integer_internal_digit_separator ≡ true) × ((r.byte layout.digit_separator == 0) ≡ false)
  integer_separator set = let (prefix, (suffix, (sign, (integer, more)))) = each_none all_conditions none in
      separator_of (not_missing conditions.IntegerGroupSize set integer)

  some_size : (number : ℕ) → not (number == 0) ≡ true → 0 < number
  some_size number some = grind (arith, nat_tests)

  used : separator_allowed r ≡ true → (r.byte layout.digit_separator == 0) ≡ false → sets.used_separator r (r.byte layout.digit_separator) ≡ true
  used allowed some = and_from _ _ allowed (cased_present true (r.byte layout.digit_separator) some)

-- The groups of a syntax have at least one digit, and separators may be between digits.
pub has_sizes_of : (g : Grammar) → IsSyntax g → HasSizes (notation_of g)
has_sizes_of g is = record {
  some = λ set. some_size r c none _ set;
  internal = λ set. (integer_separator r c none set).0;
  separator = r.byte layout.digit_separator;
  has_separator = λ set. let is = integer_separator r c none set in used r c none (let flag = is.0 in grind arith) is.1;
} where
  r : Record
  r = raw g.word

  c : Conditions
  c = g.conditions

  none : contradiction r c ≡ None
  none = is.conditions

-- A lawful format is as each rule demands.
demanded : (rule : Rule) (word : ℕ) → Lawful word → Meets (shape_of rule) word
unfolding Holds
demanded rule word lawful = Holds-from_lawful rule word lawful

-- In a lawful format, 0 is a digit of each part.
zero_is_digit : (word : ℕ) → Lawful word → (part : Part) → nat_lt (byte_value 48) (radix_of (raw word) part) ≡ true
unfolding Lawful byte_value
zero_is_digit word lawful parts.Exponent = lt-ltb 0 _ (omega (arith, lawful.exponent_radix.0))
zero_is_digit word lawful _ = lt-ltb 0 _ (omega (arith, lawful.mantissa_radix.0))

module _ (law : (A B : ByteSet) → Disjoint A B ↔ ((byte : ℕ) → byte < 256 → IsTrue (A byte) → IsTrue (B byte) → ⊥))
    (five : (word : ℕ) → Lawful word → sets.AreDisjoint (sets.five_roles (raw word)))
    (accepted : (word e p : ℕ) → Lawful word → OptionsFit word e p → OptionsHaveOneRole word e p) where
  empty_apart : (counts : Bool) (sets : List ByteSet) → AllByRecursion (Disjoint (cased counts 0)) sets
  unfolding cased
  empty_apart counts [] = tt
  empty_apart counts (B ∷ sets) = ((law (cased counts 0) B).1 (λ byte below in_a in_b. false≢true in_a), empty_apart counts sets)

  apart_of : (word : ℕ) (o : Option Options) → Lawful word → FitIfAny word o → AreApart word (exponent_in o) (point_in o)
  apart_of word None lawful fit = record {
    exponent_below = omega arith;
    point_below = omega arith;
    roles = (
      empty_apart ((raw word).flag layout.case_sensitive_exponent) (sets.point 0 ∷ sets.five_roles (raw word)),
      (empty_apart true (sets.five_roles (raw word)), five word lawful),
    );
  }
  apart_of word (Some o) lawful fit = apart_from word o.exponent o.point (accepted word o.exponent o.point lawful fit)

  pub has_roles : (g : Grammar) → IsSyntax g → HasRoles (notation_of g)
  has_roles g is = record {
    one = λ a b byte in_a in_b. one_role law g.word _ _ (apart_of g.word g.options is.lawful is.fit) byte a b
        (own g.word is.lawful g.options g.conditions a byte in_a) (own g.word is.lawful g.options g.conditions b byte in_b);
    zero_is_digit = zero_is_digit g.word is.lawful;
    one_mantissa = λ byte. refl;
    integers = integers g.options;
  } where
    integers : (o : Option Options) → lacks_options o ≡ true → (byte : ℕ) → (point_of o byte ≡ false) × (exponent_character_of (raw g.word) o byte ≡ false)
    integers o lacks byte = grind arith

  pub ready : (g : Grammar) → IsSyntax g → IsReady (steps_of g)
  ready g is = record {
    roles = other_roles (notation_of g) (steps_of g).flag (steps_of g).condition (has_roles g is);
    exponent = exponent_in g.options;
    point = point_in g.options;
    has_exponent = λ has. (chosen g.options is.fit has).0;
    has_point = λ has. (chosen g.options is.fit has).1;
    prefix = (raw g.word).byte layout.base_prefix;
    suffix = (raw g.word).byte layout.base_suffix;
    has_prefix = λ set. cased_present ((raw g.word).flag layout.case_sensitive_base_prefix) ((raw g.word).byte layout.base_prefix)
        (has_prefix (raw g.word) g.conditions is.conditions set);
    has_suffix = λ set. cased_present ((raw g.word).flag layout.case_sensitive_base_suffix) ((raw g.word).byte layout.base_suffix)
        (has_suffix (raw g.word) g.conditions is.conditions set);
    some_sign = demanded rules.MantissaSignFlagsAgree g.word is.lawful;
    agree = demanded rules.ExponentFlagsAgree g.word is.lawful;
    no_sizes = refl;
  } where
    chosen : (o : Option Options) → FitIfAny g.word o → lacks_options o ≡ false
        → (exponent_character_of (raw g.word) o (exponent_in o) ≡ true) × (point_of o (point_in o) ≡ true)
    chosen None fit has = absurd (false≢true (sym has))
    chosen (Some o) fit has =
        let both = accepted g.word o.exponent o.point is.lawful fit in
        (cased_own ((raw g.word).flag layout.case_sensitive_exponent) o.exponent both.exponent_is_text, cased_own true o.point both.point_is_text)
