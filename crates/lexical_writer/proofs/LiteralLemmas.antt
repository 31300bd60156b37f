-- What is laid out is a literal with the digits of the amount.
use Rattle.lexical_writer.proofs.Common.{AllBelowBase, Amount, Bool, ByteSet, Conditions, Grammar, HasNumber, IsSyntax, IsTrue, List, Literal, None, Notation}
use Rattle.lexical_writer.proofs.Common.{Option, Options, Part, Pattern, Reads, Record, Some, Style, [], all_below_base_digits_of, and_from, ap, arith}
use Rattle.lexical_writer.proofs.Common.{at_least, begins_decimal, begins_with, byte_value, cases_lt, character, cond, digits_in, digits_of}
use Rattle.lexical_writer.proofs.Common.{effective_exponent_radix, exponent_character_of, false, false≢true, given_fraction, given_power, grouped, has}
use Rattle.lexical_writer.proofs.Common.{has_exponent, has_leading_zero, has_point, if◌then◌else◌, inl, inr, is_absent, is_float, is_grouped, is_minus}
use Rattle.lexical_writer.proofs.Common.{is_none_or_one, is_present, is_some, lacks_options, laid_out, length, lt-ltb, ltb-true, max, nat_le, nat_lt}
use Rattle.lexical_writer.proofs.Common.{nat_tests, no_groups, not, notation_of, number, number_digits_of, one_if, only_if, option_to_list, point_of, raw, refl}
use Rattle.lexical_writer.proofs.Common.{refusal, size_of, subst, sym, text_of, true, unwrap_or, values_of, ℕ, ◌&&◌, ◌++◌, ◌+◌, ◌-◌}
use Rattle.lexical_writer.proofs.Common.{◌<◌, ◌==◌, ◌||◌, ◌∙◌, ◌∷◌, ◌≡◌, ◌≤◌, ◌⊎◌}
use Rattle.std.proofs.lemmas.Bool.{false_from_ne_true, not-false, or_left}
use Rattle.std.specs.List.{AllByRecursion}
use Rattle.std.specs.Option.{option_or}
use Rattle.lexical_literal.specs.Literal.{IsSpelled, begins, condition, is_none_or_prefix, is_zero_led, may_begin, requirement}
use Rattle.lexical_literal.specs.Notation.{all_conditions, number_of, radix_of}
use Rattle.lexical_util.specs.Layout.{Flag}
use Rattle.lexical_util.specs.Record.{separator_allowed}
use Rattle.lexical_util.specs.Unfoldable.{Holds, IsPunctuation, Lawful, cased}
use Rattle.lexical_literal.specs.Groups.{higher}
use Rattle.lexical_literal.specs.Run.{is_run}
use Rattle.lexical_literal.specs.Syntax.{FitIfAny, contradiction, fault, first_fault, forbids_zeros, limits, missing}
use Rattle.lexical_literal.specs.declared.syntax.Condition.{Condition}
use Rattle.lexical_literal.specs.declared.syntax.ConditionsError.{ConditionsError}
use Rattle.lexical_writer.specs.Layout.{after_zero, base_byte, fraction_text, integer_pattern, least_digits, led_digits, options_of}
use Rattle.lexical_writer.specs.Layout.{pattern_of, sign_of}
use Rattle.lexical_literal.proofs.RunLemmas.{rest_of_none}
use Rattle.lexical_util.specs.Layout as layout
use Rattle.lexical_util.specs.Roles as sets
use Rattle.lexical_util.specs.declared.format_flags.Part.TheVariants as parts
use Rattle.lexical_literal.specs.declared.syntax.Condition.TheVariants as conditions
use Rattle.lexical_writer.specs.declared.layout.WriteError.TheVariants as errors
use Rattle.lexical_writer.proofs.DigitLemmas.{character_value, decimal_first, grouped_digits, grouped_present, least_below, least_number, values_below}
use Rattle.lexical_writer.proofs.DigitLemmas.{zero_first}
use Rattle.lexical_writer.proofs.GroupLemmas.{Between, grouped_rest, no_leading_zero, right_groups, single_fits}

-- The flags of a lawful format agree.
agree : (word : ℕ) → Lawful word → (((raw word).flag layout.no_exponent_notation && (raw word).flag layout.required_exponent_notation) ≡ false)
    × (((raw word).flag layout.no_positive_mantissa_sign && (raw word).flag layout.required_mantissa_sign) ≡ false)
    × (((raw word).flag layout.no_positive_exponent_sign && (raw word).flag layout.required_exponent_sign) ≡ false)
unfolding Lawful Holds
agree word lawful = let flags = lawful.flags in assumption flags

-- The conditions of a syntax agree with its format.
no_contradiction : (r : Record) (c : Conditions) → contradiction r c ≡ None → ((has c conditions.BasePrefix && (r.byte layout.base_prefix == 0)) ≡ false)
    × ((has c conditions.BaseSuffix && (r.byte layout.base_suffix == 0)) ≡ false)
unfolding fault
no_contradiction r c none = (grind (arith, nat_tests), grind (arith, nat_tests))

each_none : (r : Record) (c : Conditions) (ds : List Condition) → first_fault r c ds ≡ None → AllByRecursion (λ d. fault r c d ≡ None) ds
each_none r c [] none = tt
each_none r c (d ∷ ds) none = let both = either_none (fault r c d) (first_fault r c ds) none in (both.0, each_none r c ds both.1)
  where
    either_none : (a b : Option ConditionsError) → option_or a b ≡ None → (a ≡ None) × (b ≡ None)
    either_none None b none = (refl, none)
    either_none (Some x) b none = cc

-- Groups have the sizes that conditions require, which are at least 2.
at_least_2 : (r : Record) (c : Conditions) (d : Condition) → limits d ≡ (2, 8) → fault r c d ≡ None → has c d ≡ true → 2 ≤ number_of c d
unfolding fault
at_least_2 r c d two none set = grind (arith, nat_tests)

least : (r : Record) (c : Conditions) → contradiction r c ≡ None
    → (has c conditions.IntegerGroupSize ≡ true → 2 ≤ number_of c conditions.IntegerGroupSize)
    × (has c conditions.HigherGroupSize ≡ true → 2 ≤ number_of c conditions.HigherGroupSize)
least r c none = grind (arith, nat_tests, each_none, at_least_2)

-- Where a flag forbids leading zeros, no condition is on the first digit.
unset : (r : Record) (c : Conditions) (d : Condition) → missing r c d ≡ forbids_zeros r → fault r c d ≡ None
    → (r.flag layout.no_integer_leading_zeros || r.flag layout.no_float_leading_zeros) ≡ true → has c d ≡ false
unfolding fault
unset r c d is none set = grind (arith, nat_tests)

no_led_digits : (r : Record) (c : Conditions) (float : Bool) (digits : List ℕ) → contradiction r c ≡ None
    → r.flag (if float then layout.no_float_leading_zeros else layout.no_integer_leading_zeros) ≡ true → led_digits c false digits ≡ 1
no_led_digits r c float digits none set =
    let (prefix, (suffix, (sign, (last, (higher, (zero, (decimal, end))))))) = each_none r c all_conditions none in
    let first = unset r c conditions.LeadingZero refl zero in
    let second = unset r c conditions.DecimalFirstDigit refl decimal in
    grind (arith, first, second)

record AreRequired (m : Notation) (pattern : Pattern) : Type 0 where
  last : pattern.last ≡ m.number conditions.IntegerGroupSize
  size : pattern.higher ≡ higher m
  two : 2 ≤ pattern.last
  some : 2 ≤ pattern.higher

required : (g : Grammar) (style : Style) → contradiction (raw g.word) g.conditions ≡ None → has g.conditions conditions.IntegerGroupSize ≡ true
    → 0 < (integer_pattern (raw g.word) g.conditions style).higher → AreRequired (notation_of g) (integer_pattern (raw g.word) g.conditions style)
required g style none set groups =
    let last_least = (least (raw g.word) g.conditions none).0 set in
    let higher_least = (least (raw g.word) g.conditions none).1 in
    record { last = grind (arith, nat_tests); size = grind (arith, nat_tests); two = grind (arith, nat_tests); some = grind (arith, nat_tests) }

-- Punctuation is not 0.
some_byte : (r : Record) (byte : ℕ) → IsPunctuation r byte → (byte == 0) ≡ false
unfolding IsPunctuation
some_byte r byte is = let text = is.0 in grind (arith, nat_tests)

-- No number is refused for a sign, a fraction or an exponent.
no_refusal : (n a b : Bool) → (if n then Some errors.Negative else (if a then Some errors.Fraction else (if b then Some errors.Radix else None))) ≡ None
    → (n ≡ false) × (a ≡ false) × (b ≡ false)
no_refusal n a b none = (grind arith, grind arith, grind arith)

one_byte : (S : ByteSet) (lacks test : Bool) (byte : ℕ) → (lacks ≡ true → test ≡ false) → (lacks ≡ false → S byte ≡ true)
    → is_none_or_one S (option_to_list (only_if test byte)) ≡ true
one_byte S lacks test byte none some = grind arith

fraction_digits_present : (point some : Bool) (byte : ℕ) → (is_absent (option_to_list (only_if point byte)) || (nat_lt 0 (one_if point) || some)) ≡ true
fraction_digits_present point some byte = grind (arith, nat_tests)

-- Without a decimal point, there is no fraction, and without an exponent character, no exponent.
no_fraction : (r : Record) (style : Style) (amount : Amount) (other : Bool) (byte : ℕ)
    → is_absent (option_to_list (only_if (is_some amount.fraction || other) byte)) ≡ true
    → fraction_text r style (is_some amount.fraction || other) amount ≡ []
no_fraction r style amount other byte absent = grind arith

no_power : (amount : Amount) (other required lowercase : Bool) (byte radix : ℕ)
    → is_absent (option_to_list (only_if (is_some amount.exponent || other) byte)) ≡ true
    → (option_to_list (sign_of (given_power amount).negative ((is_some amount.exponent || other) && required)) ≡ [])
    × (grouped (no_groups lowercase) (at_least (one_if (is_some amount.exponent || other)) (digits_of radix (size_of radix (given_power amount).source))) ≡ [])
no_power amount other required lowercase byte radix absent = (grind arith, grind arith)

-- Only a negative number has a minus sign.
pub minus : (negative required : Bool) → is_minus (option_to_list (sign_of negative required)) ≡ negative
minus negative required = grind arith

-- The radixes of a lawful format are between 2 and 36.
pub radixes : (word : ℕ) → Lawful word → (part : Part) → (2 ≤ radix_of (raw word) part) × (radix_of (raw word) part ≤ 36)
unfolding Lawful
radixes word lawful part = grind arith

-- A byte that is not 0 plays the role for which it is chosen.
own : (counts : Bool) (byte : ℕ) → (byte == 0) ≡ false → cased counts byte byte ≡ true
unfolding cased
own counts byte some = grind (arith, nat_tests)

-- Groups are only where the format allows separators between digits.
groups_allowed : (r : Record) (allowed lowercase : Bool) (last size : ℕ) → 0 < (pattern_of r allowed last size lowercase).higher
    → (allowed ≡ true) × ((r.byte layout.digit_separator == 0) ≡ false)
    × ((pattern_of r allowed last size lowercase).separator ≡ r.byte layout.digit_separator)
groups_allowed r allowed lowercase last size some = (grind (arith, nat_tests), grind (arith, nat_tests), grind (arith, nat_tests))

internal_allowed : (r : Record) → r.flag layout.integer_internal_digit_separator ≡ true → separator_allowed r ≡ true
internal_allowed r set = grind arith

least_some : (c : Conditions) (prefix : Bool) (digits : List ℕ) (other : ℕ) → nat_lt 0 (max (led_digits c prefix digits) other) ≡ true
least_some c prefix digits other = grind (arith, nat_tests)

digits_if : (exponent some : Bool) (byte : ℕ)
    → (is_absent (option_to_list (only_if exponent byte)) || (nat_lt 0 (one_if exponent) || some)) ≡ true
digits_if exponent some byte = grind (arith, nat_tests)

pub float_if : (point exponent : Bool) (a b : ℕ)
    → (is_present (option_to_list (only_if point a)) || is_present (option_to_list (only_if exponent b))) ≡ (point || exponent)
float_if point exponent a b = grind arith

-- Where leading zeros are forbidden, there are none, or there is a prefix.
least_one : (r : Record) (c : Conditions) (style : Style) (float : Bool) (amount : Amount) → contradiction r c ≡ None
    → r.flag (if float then layout.no_float_leading_zeros else layout.no_integer_leading_zeros) ≡ true → least_digits r c style false float amount ≤ 1
least_one r c style float amount none set =
    let radix = r.byte layout.mantissa_radix in
    let one = no_led_digits r c float (digits_of radix (size_of radix amount.integer)) none set in grind (arith, nat_tests, one, set)

-- What begins with a digit that a condition allows.
begins_more : (A : ByteSet) (x y : List ℕ) → begins_with A x ≡ true → begins_with A (x ++ y) ≡ true
begins_more A [] y is = absurd (false≢true is)
begins_more A (b ∷ x) y is = is

begins_behind : (A : ByteSet) (prefix : Option ℕ) (integer rest : List ℕ) → A 48 ≡ true → (is_some prefix ≡ false → begins_with A integer ≡ true)
    → begins_with A (after_zero prefix ++ (integer ++ rest)) ≡ true
begins_behind A None integer rest zero first = begins_more A integer rest (first refl)
begins_behind A (Some byte) integer rest zero first = zero

zero_character : (lowercase : Bool) → character lowercase 0 ≡ 48
zero_character lowercase = grind arith

decimal_character : (lowercase : Bool) (d : ℕ) → d < 10 → nat_le (character lowercase d) 57 ≡ true
decimal_character lowercase d below = grind arith

decimal_least : (zero decimal begins : Bool) (n b : ℕ) → decimal ≡ true
    → (n < max (if not false && (zero || (decimal && not begins)) then n + 1 else 1) b) ⊎ (begins ≡ true)
decimal_least zero decimal begins n b set = grind arith

zero_led : (D : ByteSet) (prefix : Option ℕ) (run : List ℕ) → (is_some prefix ≡ false → has_leading_zero D run ≡ false)
    → not (is_absent (after_zero prefix) && has_leading_zero D run) ≡ true
zero_led D None run none = ap not (none refl)
zero_led D (Some byte) run none = refl

by_kind : (kind led : Bool) → (kind ≡ false → not led ≡ true) → (kind || not led) ≡ true
by_kind kind led none = grind arith

module _ (g : Grammar) (style : Style) (amount : Amount) (is : IsSyntax g)
    (apart : (byte : ℕ) → byte_value byte < (raw g.word).byte layout.mantissa_radix → IsTrue (sets.used_separator (raw g.word) byte) → ⊥)
    (can : refusal g amount ≡ None) where
  abbrev r : Record
  r = raw g.word

  abbrev m : Notation
  m = notation_of g

  abbrev l : Literal
  l = laid_out g style amount

  abbrev radix : ℕ
  radix = r.byte layout.mantissa_radix

  abbrev pattern : Pattern
  pattern = integer_pattern r g.conditions style

  abbrev exponent : Bool
  exponent = has_exponent g amount

  abbrev point : Bool
  point = has_point g amount

  abbrev prefix : Option ℕ
  prefix = base_byte (style.base || has g.conditions conditions.BasePrefix) (r.byte layout.base_prefix)

  abbrev least_integer : ℕ
  least_integer = least_digits r g.conditions style (is_some prefix) (point || exponent) amount

  abbrev least_fraction : ℕ
  least_fraction = one_if point

  abbrev fraction_digits : List ℕ
  fraction_digits = at_least least_fraction (values_of radix (given_fraction amount))

  abbrev fraction_groups : Pattern
  fraction_groups = no_groups style.lowercase

  abbrev exponent_radix : ℕ
  exponent_radix = effective_exponent_radix r

  -- The digits of each part are digits of this part, and represent the same number.
  digit : (part : Part) (lowercase : Bool) (d : ℕ) → d < radix_of r part → m.digit part (character lowercase d) ≡ true
  digit part lowercase d below =
      let small : radix_of r part ≤ 36 = (radixes g.word is.lawful part).1 in
      lt-ltb (byte_value (character lowercase d)) (radix_of r part) (omega (arith, character_value lowercase d (omega arith)))

  run : (part : Part) (pattern : Pattern) (least : ℕ) (digits : List ℕ) → Between m part pattern → AllBelowBase (radix_of r part) digits
      → (is_run m part (grouped pattern (at_least least digits)) ≡ true)
      × (digits_in (radix_of r part) (grouped pattern (at_least least digits)) ≡ at_least least digits)
  run part pattern least digits between all =
      let radix = radixes g.word is.lawful part in
      let below = least_below (radix_of r part) least digits radix.0 all in (
        sym (rest_of_none m part _) ∙ grouped_rest m part (radix_of r part) pattern (digit part pattern.lowercase) between (at_least least digits) false false
            below (λ is. absurd (false≢true is)),
        grouped_digits (radix_of r part) pattern radix.1 (λ some. ap (λ test. cond test (Some (byte_value pattern.separator)) None) (between some).2)
            (at_least least digits) below,
      )

  between : Between m parts.Integer pattern
  between some =
      let are = groups_allowed r _ style.lowercase _ _ some in
      let byte = r.byte layout.digit_separator in
      let in_use : sets.used_separator r byte ≡ true = and_from _ _ (internal_allowed r are.0) (own true byte are.1) in
      rw are.2 (in_use, are.0, false_from_ne_true _ (λ below. apart byte (ltb-true _ _ below) in_use))

  plain : (part : Part) (lowercase : Bool) → Between m part (no_groups lowercase)
  plain part lowercase some = absurd (omega (arith, some))

  integer_run : (is_run m parts.Integer l.integer ≡ true)
      × (digits_in radix l.integer ≡ at_least least_integer (digits_of radix (size_of radix amount.integer)))
  integer_run = run parts.Integer pattern least_integer (digits_of radix (size_of radix amount.integer)) between
      (all_below_base_digits_of radix (size_of radix amount.integer) (radixes g.word is.lawful parts.Integer).0)

  fraction_run : (is_run m parts.Fraction l.fraction ≡ true) × (digits_in radix l.fraction ≡ fraction_digits)
  fraction_run = run parts.Fraction fraction_groups least_fraction (values_of radix (given_fraction amount)) (plain parts.Fraction style.lowercase)
      (values_below radix (given_fraction amount) (radixes g.word is.lawful parts.Fraction).0)

  exponent_run : (is_run m parts.Exponent l.exponent ≡ true)
      × (digits_in exponent_radix l.exponent ≡ at_least (one_if exponent) (digits_of exponent_radix (size_of exponent_radix (given_power amount).source)))
  exponent_run =
      let size = size_of exponent_radix (given_power amount).source in
      run parts.Exponent (no_groups style.lowercase) (one_if exponent) (digits_of exponent_radix size) (plain parts.Exponent style.lowercase)
      (all_below_base_digits_of exponent_radix size (radixes g.word is.lawful parts.Exponent).0)

  same_number : (radix n least : ℕ) (bytes : List ℕ) → 2 ≤ radix → digits_in radix bytes ≡ at_least least (digits_of radix n) → number radix bytes ≡ n
  same_number radix n least bytes two is = grind (arith, nat_tests, least_number, number_digits_of)

  has_number : HasNumber g amount l
  has_number = record {
    sign = minus amount.negative _;
    integer = same_number radix _ _ l.integer (radixes g.word is.lawful parts.Integer).0 integer_run.1;
    zero = point;
    fraction = fraction_run.1;
    exponent_sign = minus (given_power amount).negative _;
    exponent = same_number exponent_radix _ _ l.exponent (radixes g.word is.lawful parts.Exponent).0 exponent_run.1;
  }

  -- The integer is in groups.
  no_separator : (lowercase : Bool) (d : ℕ) → d < radix → m.separator (character lowercase d) ≡ false
  no_separator lowercase d below =
      let small : radix ≤ 36 = (radixes g.word is.lawful parts.Integer).1 in
      false_from_ne_true _ (λ in_use. apart (character lowercase d) (omega (arith, character_value lowercase d (omega arith))) in_use)

  in_groups : m.condition conditions.IntegerGroupSize ≡ true → is_grouped m l.integer ≡ true
  in_groups set =
      let digits = at_least least_integer (digits_of radix (size_of radix amount.integer)) in
      let all : AllBelowBase radix digits = least_below radix least_integer _ (radixes g.word is.lawful parts.Integer).0
      (all_below_base_digits_of radix (size_of radix amount.integer) (radixes g.word is.lawful parts.Integer).0) in
      elim (cases_lt 0 pattern.higher) [
        | inl some ↦
            let are = required g style is.conditions set some in
            right_groups m radix pattern (no_separator pattern.lowercase) (between some).0 are.last are.size
            (let two = are.two in omega (arith, two)) some digits all
        | inr none ↦ single_fits m radix pattern (no_separator pattern.lowercase) digits all (omega (arith, none))
      ]

  -- No exponent is written where none is allowed.
  allowed : ((amount.negative && has g.conditions conditions.NegativeSign) ≡ false) × ((lacks_options g.options && is_some amount.fraction) ≡ false)
      × (((lacks_options g.options || r.flag layout.no_exponent_notation) && is_some amount.exponent) ≡ false)
  allowed = no_refusal _ (lacks_options g.options && is_some amount.fraction) _ can

  no_exponent : (lacks_options g.options || r.flag layout.no_exponent_notation) ≡ true → exponent ≡ false
  no_exponent none = let agrees = (agree g.word is.lawful).0 in let can = allowed.2 in grind (arith, agrees, can)

  integer_present : is_present l.integer ≡ (nat_lt 0 least_integer || is_present (digits_of radix (size_of radix amount.integer)))
  integer_present = grouped_present pattern least_integer (digits_of radix (size_of radix amount.integer))

  fraction_present : is_present l.fraction ≡ (nat_lt 0 least_fraction || is_present (values_of radix (given_fraction amount)))
  fraction_present = grouped_present fraction_groups least_fraction (values_of radix (given_fraction amount))

  -- The integer has a digit.
  integer_some : is_present l.integer ≡ true
  integer_some = integer_present ∙ or_left _ _ (least_some g.conditions (is_some prefix) (digits_of radix (size_of radix amount.integer)) _)

  no_lead : (float : Bool) → (point || exponent) ≡ float → r.flag (if float then layout.no_float_leading_zeros else layout.no_integer_leading_zeros) ≡ true
      → not (is_zero_led m l) ≡ true
  no_lead float kind set = zero_led (m.digit parts.Integer) _ l.integer (λ none. no_leading_zero (m.digit parts.Integer) radix least_integer pattern
      (size_of radix amount.integer) (subst (λ k. k ≤ 1) (λ i. least_digits r g.conditions style (sym none i) (sym kind i) amount)
      (least_one r g.conditions style float amount is.conditions set))
      (radixes g.word is.lawful parts.Integer).0 (radixes g.word is.lawful parts.Integer).1 (digit parts.Integer pattern.lowercase))

  is_float_if : is_float l ≡ (point || exponent)
  is_float_if = float_if point exponent _ _

  exponent_digits : (is_absent l.exponent_character || is_present l.exponent) ≡ true
  exponent_digits =
      rw (grouped_present (no_groups style.lowercase) (one_if exponent) (digits_of exponent_radix (size_of exponent_radix (given_power amount).source)))
      (digits_if exponent _ _)

  met : (f : Flag) → IsTrue (m.flag f) → IsTrue (requirement f m l)
  met layout.required_integer_digits set = integer_some
  met layout.required_fraction_digits set = rw fraction_present (fraction_digits_present point _ _)
  met layout.required_exponent_digits set = exponent_digits
  met layout.required_mantissa_digits set = or_left _ _ integer_some
  met layout.no_positive_mantissa_sign set = let agrees = (agree g.word is.lawful).1 in grind (arith, agrees)
  met layout.required_mantissa_sign set = grind arith
  met layout.no_exponent_notation set = grind (arith, no_exponent)
  met layout.no_positive_exponent_sign set = let agrees = (agree g.word is.lawful).2 in grind (arith, agrees)
  met layout.required_exponent_sign set = grind arith
  met layout.no_exponent_without_fraction set = grind arith
  met layout.no_integer_leading_zeros set = by_kind (is_float l) (is_zero_led m l) (λ kind. no_lead false (sym is_float_if ∙ kind) set)
  met layout.no_float_leading_zeros set = by_kind (not (is_float l)) (is_zero_led m l) (λ kind. no_lead true (sym is_float_if ∙ not-false _ kind) set)
  met layout.required_exponent_notation set = grind arith
  met _ set = refl

  -- The first digit is one that conditions allow.
  abbrev integer_digits : List ℕ
  integer_digits = digits_of radix (size_of radix amount.integer)

  -- How many digits the style wants where there is no prefix.
  abbrev wish : ℕ
  wish = if not (r.flag (if point || exponent then layout.no_float_leading_zeros else layout.no_integer_leading_zeros)) then style.min_digits else 0

  zero_more : (prefixed : Bool) → prefixed ≡ false → has g.conditions conditions.LeadingZero ≡ true
      → length integer_digits < least_digits r g.conditions style prefixed (point || exponent) amount
  zero_more prefixed none set = grind (arith, nat_tests)

  decimal_more : (prefixed : Bool) → prefixed ≡ false → has g.conditions conditions.DecimalFirstDigit ≡ true
      → (length integer_digits < least_digits r g.conditions style prefixed (point || exponent) amount) ⊎ (begins_decimal integer_digits ≡ true)
  decimal_more true none set = absurd (false≢true (sym none))
  decimal_more false none set = decimal_least (has g.conditions conditions.LeadingZero) (has g.conditions conditions.DecimalFirstDigit)
      (begins_decimal integer_digits) (length integer_digits) wish set

  zero_begins : (c : Condition) → may_begin c 48 ≡ true
      → (m.digit parts.Integer (character pattern.lowercase 0) && may_begin c (character pattern.lowercase 0)) ≡ true
  zero_begins c fits = and_from _ _
      (digit parts.Integer pattern.lowercase 0 (let two = (radixes g.word is.lawful parts.Integer).0 in omega (arith, two)))
      (ap (may_begin c) (zero_character pattern.lowercase) ∙ fits)

  begun : (c : Condition) → may_begin c 48 ≡ true
      → (is_some prefix ≡ false → begins_with (λ b. m.digit parts.Integer b && may_begin c b) l.integer ≡ true) → begins c m l ≡ true
  begun c fits first = begins_behind (λ b. m.digit parts.Integer b && may_begin c b) prefix l.integer _
      (subst (λ b. (m.digit parts.Integer b && may_begin c b) ≡ true) (zero_character pattern.lowercase) (zero_begins c fits)) first

  conditions_met : (c : Condition) → IsTrue (m.condition c) → IsTrue (condition c m l)
  conditions_met conditions.BasePrefix set = let there = no_contradiction r g.conditions is.conditions in grind arith
  conditions_met conditions.BaseSuffix set = let there = no_contradiction r g.conditions is.conditions in grind arith
  conditions_met conditions.NegativeSign set = grind (arith, allowed)
  conditions_met conditions.IntegerGroupSize set = in_groups set
  conditions_met conditions.HigherGroupSize set = refl
  conditions_met conditions.LeadingZero set = begun conditions.LeadingZero refl
      (λ none. zero_first _ pattern (least_integer - length integer_digits) integer_digits (zero_begins conditions.LeadingZero refl)
      (let more = zero_more (is_some prefix) none set in omega (arith, more)))
  conditions_met conditions.DecimalFirstDigit set = begun conditions.DecimalFirstDigit refl (λ none. elim (decimal_more (is_some prefix) none set) [
    | inl more ↦ zero_first _ pattern (least_integer - length integer_digits) integer_digits (zero_begins conditions.DecimalFirstDigit refl)
        (omega (arith, more))
    | inr decimal ↦ decimal_first _ pattern radix (least_integer - length integer_digits) integer_digits (zero_begins conditions.DecimalFirstDigit refl)
        (λ d below small. and_from _ _ (digit parts.Integer pattern.lowercase d below) (decimal_character pattern.lowercase d small))
        (all_below_base_digits_of radix (size_of radix amount.integer) (radixes g.word is.lawful parts.Integer).0) decimal
  ])

  one_sign : (negative required : Bool) → is_none_or_one sets.signs (option_to_list (sign_of negative required)) ≡ true
  one_sign negative required = grind arith

  one_prefix : (some : Bool) → is_none_or_prefix m.prefix (after_zero (base_byte some (r.byte layout.base_prefix))) ≡ true
  one_prefix some = grind (arith, own)

  one_suffix : (some : Bool) → is_none_or_one m.suffix (option_to_list (base_byte some (r.byte layout.base_suffix))) ≡ true
  one_suffix some = grind (arith, own)

  -- The decimal point and the exponent character are those of the options.
  in_role : (o : Option Options) → FitIfAny g.word o → lacks_options o ≡ false
      → (point_of o (unwrap_or o (record { exponent = 0; point = 0 })).point ≡ true)
      × (exponent_character_of r o (unwrap_or o (record { exponent = 0; point = 0 })).exponent ≡ true)
  in_role None fit some = absurd (false≢true (sym some))
  in_role (Some o) fit some =
      (own true o.point (some_byte r o.point fit.point_is_punctuation), own _ o.exponent (some_byte r o.exponent fit.exponent_is_punctuation))

  no_point : lacks_options g.options ≡ true → point ≡ false
  no_point lacks = let none = no_exponent (or_left _ (r.flag layout.no_exponent_notation) lacks) in let fraction = allowed.1 in grind arith

  spelled : IsSpelled m l
  spelled = record {
    sign = one_sign amount.negative _;
    prefix = one_prefix (style.base || has g.conditions conditions.BasePrefix);
    integer = integer_run.0;
    point = one_byte (point_of g.options) (lacks_options g.options) (point) _ no_point (λ some. (in_role g.options is.fit some).0);
    fraction = fraction_run.0;
    exponent_character = one_byte (exponent_character_of r g.options) (lacks_options g.options) (exponent) _
        (λ lacks. no_exponent (or_left _ _ lacks)) (λ some. (in_role g.options is.fit some).1);
    exponent_sign = one_sign (given_power amount).negative _;
    exponent = exponent_run.0;
    suffix = one_suffix (style.base || has g.conditions conditions.BaseSuffix);
    after_point = no_fraction r style amount _ (options_of g).point;
    after_character = no_power amount _ _ style.lowercase (options_of g).exponent exponent_radix;
    some_number = grind (arith, integer_some);
    requirements = met;
  }

  reads : Reads m l (text_of l)
  reads = record { whole = refl; literal = record { spelled = spelled; conditions = conditions_met } }

-- What is laid out is a literal with the digits of the amount.
pub laid : (g : Grammar) (style : Style) (amount : Amount) → IsSyntax g
    → ((byte : ℕ) → byte_value byte < (raw g.word).byte layout.mantissa_radix → IsTrue (sets.used_separator (raw g.word) byte) → ⊥)
    → refusal g amount ≡ None → Reads (notation_of g) (laid_out g style amount) (text_of (laid_out g style amount))
    × HasNumber g amount (laid_out g style amount)
laid g style amount is apart can = (reads g style amount is apart can, has_number g style amount is apart can)
