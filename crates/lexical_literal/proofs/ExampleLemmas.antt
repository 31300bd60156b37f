-- A test that says whether parts are a literal, for examples.
use Rattle.lexical_literal.proofs.Common.{AllByRecursion, Bool, HasTwoReadings, IsLiteral, List, Literal, Notation, [], all_conditions, arith, common_steps}
use Rattle.lexical_literal.proofs.Common.{false, false≢true, implies, is_absent, is_float, is_none_or_one, is_none_or_prefix, is_present, list_any, not, refl}
use Rattle.lexical_literal.proofs.Common.{requirement_flags, signs, sym, text_of, true, ℕ, ◌&&◌, ◌||◌, ◌∷◌, ◌≡◌}
use Rattle.lexical_literal.specs.Run.{is_run}
use Rattle.lexical_util.specs.declared.format_flags.Part.TheVariants as parts
use Rattle.lexical_literal.proofs.CutLemmas.{only}

-- `asks_nothing m` is true if no flag and no condition requires anything.
abbrev asks_nothing : Notation → Bool
asks_nothing m = not (list_any m.flag requirement_flags) && not (list_any m.condition all_conditions)

-- The tests of the spelling of each part of `l`, and of the parts that go together.
abbrev tests : Notation → Literal → List Bool
tests m l = is_none_or_one signs l.sign ∷ is_none_or_prefix m.prefix l.prefix ∷ is_run m parts.Integer l.integer ∷ is_none_or_one m.point l.point ∷
    is_run m parts.Fraction l.fraction ∷ is_none_or_one m.exponent_character l.exponent_character ∷ is_none_or_one signs l.exponent_sign ∷
    is_run m parts.Exponent l.exponent ∷ is_none_or_one m.suffix l.suffix ∷ implies (is_absent l.point) (is_absent l.fraction) ∷
    implies (is_absent l.exponent_character) (is_absent l.exponent_sign && is_absent l.exponent) ∷ (is_present l.integer || is_float l) ∷ []

each : (tests : List Bool) → list_any not tests ≡ false → AllByRecursion (λ test. test ≡ true) tests
each [] is = tt
each (true ∷ tests) is = (refl, each tests is)
each (false ∷ tests) is = absurd (false≢true (sym is))

-- Parts that pass the tests are a literal.
literal_if : (m : Notation) (l : Literal) → asks_nothing m ≡ true → list_any not (tests m l) ≡ false → IsLiteral m l
literal_if m l free is =
    let (sign, (prefix, (integer, (point, (fraction, (character, (exponent_sign, (exponent, (suffix, (after_point, (after_character, (some, end)))))))))))) =
    each (tests m l) is in
    record {
      conditions = grind arith;
      spelled = record {
        sign = sign;
        prefix = prefix;
        integer = integer;
        point = point;
        fraction = fraction;
        exponent_character = character;
        exponent_sign = exponent_sign;
        exponent = exponent;
        suffix = suffix;
        after_point = λ absent. grind arith;
        after_character = λ absent. (grind arith, grind arith);
        some_number = some;
        requirements = grind arith;
      };
    }

-- A text has two readings if it is the text of two different lists of parts that pass the test.
pub two : (m : Notation) (text : List ℕ) (l k : Literal) → asks_nothing m ≡ true → text ≡ text_of l → text ≡ text_of k → list_any not (tests m l) ≡ false
    → list_any not (tests m k) ≡ false → (l ≡ k → ⊥) → HasTwoReadings m text
two m text l k free first second is_l is_k differ = grind (arith, common_steps, literal_if)

-- `a_literal sign prefix integer point character exponent suffix` has these parts, and no others.
abbrev pub a_literal : List ℕ → List ℕ → List ℕ → List ℕ → List ℕ → List ℕ → List ℕ → Literal
a_literal sign prefix integer point character exponent suffix =
    record (only suffix) { sign = sign; prefix = prefix; integer = integer; point = point; exponent_character = character; exponent = exponent }
