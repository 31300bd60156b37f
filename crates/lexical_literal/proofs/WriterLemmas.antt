-- Which texts of mantissa digits are literals.
use Rattle.lexical_literal.proofs.Common.{AllIn, Bool, HasRoles, HasSizes, IsFalse, IsReady, List, Literal, None, Notation, Reads, Some, Stage, [], ap, arith}
use Rattle.lexical_literal.proofs.Common.{false, false_from_ne_true, first_group, is_accepted, list_any, move_by, needs_exponent, not, or_from, part_of, refl}
use Rattle.lexical_literal.proofs.Common.{refuses_first, start, step, sym, true, unsized, walk, ℕ, ◌&&◌, ◌||◌, ◌↔◌, ◌∙◌, ◌∷◌, ◌≡◌, ◌≢◌}
use Rattle.lexical_util.specs.Layout as layout
use Rattle.lexical_util.specs.declared.feature_format.roles.Role.TheVariants as roles
use Rattle.lexical_util.specs.declared.format_flags.Part.TheVariants as parts
use Rattle.lexical_literal.specs.declared.step.Stage.TheVariants as stages
use Rattle.lexical_literal.proofs.WalkLemmas.{walk_none, digit_role, is_role}
use Rattle.lexical_literal.proofs.StepLemmas.{reading}
use Rattle.lexical_literal.specs.declared.syntax.Condition.TheVariants as conditions
use Rattle.lexical_literal.proofs.ConditionLemmas.{literal_from, literal_arrives}
use Rattle.lexical_literal.proofs.FitLemmas.{calm_ends}
use Rattle.lexical_literal.proofs.GroupLemmas.{one_role}
use Rattle.lexical_literal.proofs.RefusalLemmas.{other_roles}
use Rattle.lexical_literal.proofs.SizeLemmas.{as_sized, as_unsized}

module _ (m : Notation) (ready : IsReady (unsized m)) (sizes : HasSizes m) where
  abbrev u : Notation
  u = unsized m

  h : HasRoles m
  h = other_roles u m.flag m.condition ready.roles

  -- A text without separators is a literal exactly if it is accepted.
  literal_exactly : (text : List ℕ) (refused : Bool) → list_any m.separator text ≡ false → is_accepted u (walk u (Some start) text) ≡ not refused
      → ((l : Literal) × Reads m l text) ↔ IsFalse refused
  literal_exactly text refused joined same = (
    λ (l, reads).
        let free = (as_unsized m h sizes l text reads).0 in
        let is = sym same ∙ ap (λ t. is_accepted u (walk u (Some start) t)) reads.whole ∙ (literal_arrives u ready.roles l free.literal).0 in grind arith,
    λ none. let l = literal_from u ready.roles ready.no_sizes text (same ∙ ap not none) in
        (l.0, as_sized m h sizes l.0 text l.1 (calm_ends m first_group text refl joined)),
  )

  joined : (digits : List ℕ) → AllIn (m.digit parts.Integer) digits → list_any m.separator digits ≡ false
  joined [] all = refl
  joined (b ∷ digits) all = or_from _ _ (one_role m h parts.Integer b all.0) (joined digits all.1)

  -- Digits that follow a digit that is not 0.
  more_digits : (digits : List ℕ) → AllIn (m.digit parts.Integer) digits
      → is_accepted u (walk u (Some (reading stages.Integer false)) digits) ≡ not (m.condition conditions.BaseSuffix || needs_exponent m)
  more_digits [] all = grind arith
  more_digits (b ∷ digits) all = grind (arith, more_digits digits all.1, reading, digit_role)

  module _ (first : ℕ) (digits : List ℕ) (not_zero : first ≢ 48) (all : AllIn (m.digit parts.Integer) (first ∷ digits)) where
    -- The first digit, which is not 0.
    first_digit : (stage : Stage) → part_of stage ≡ parts.Integer → let s = reading stage false in
        step u s first ≡ move_by u.condition u s first (Some roles.Digit)
    first_digit stage at = grind arith

    pub digits_read : ((l : Literal) × Reads m l (first ∷ digits))
        ↔ IsFalse ((m.condition conditions.BasePrefix || (m.condition conditions.BaseSuffix || refuses_first m.condition first))
        || (m.flag layout.required_mantissa_sign || (m.flag layout.required_exponent_notation && not m.integers_only)))
    digits_read = literal_exactly (first ∷ digits) _ (joined (first ∷ digits) all)
        (ap (λ o. is_accepted u (walk u o digits)) (first_digit stages.Start refl) ∙ go _ refl) where
          go : (none : Bool) → ((m.condition conditions.BasePrefix || refuses_first m.condition first) || m.flag layout.required_mantissa_sign) ≡ none
              → is_accepted u (walk u (move_by u.condition u start first (Some roles.Digit)) digits)
              ≡ not ((m.condition conditions.BasePrefix || (m.condition conditions.BaseSuffix || refuses_first m.condition first))
              || (m.flag layout.required_mantissa_sign || (m.flag layout.required_exponent_notation && not m.integers_only)))
          go true is =
              let move : move_by u.condition u start first (Some roles.Digit) ≡ None = grind arith in
              ap (λ o. is_accepted u (walk u o digits)) move ∙ (let none = walk_none u.condition u digits in grind arith)
          go false is =
              let move : move_by u.condition u start first (Some roles.Digit) ≡ Some (reading stages.Integer false) = grind arith in
              ap (λ o. is_accepted u (walk u o digits)) move ∙ (let more = more_digits digits all.1 in grind arith)

    pub negative_read : ((l : Literal) × Reads m l (45 ∷ first ∷ digits))
        ↔ IsFalse ((m.condition conditions.BasePrefix || (m.condition conditions.BaseSuffix || refuses_first m.condition first))
        || (m.condition conditions.NegativeSign || (m.flag layout.required_exponent_notation && not m.integers_only)))
    negative_read = literal_exactly (45 ∷ first ∷ digits) _ (or_from _ _ minus (joined (first ∷ digits) all))
        (ap (λ o. is_accepted u (walk u o (first ∷ digits)))
        (ap (move_by u.condition u start 45) (is_role u parts.Integer 45 ready.roles roles.Sign (λ e. cc) refl)) ∙ go
        (m.condition conditions.NegativeSign) refl) where
          minus : m.separator 45 ≡ false
          minus = false_from_ne_true _ (λ is. let same = h.one roles.Separator roles.Sign 45 is refl in cc)

          go : (minus : Bool) → m.condition conditions.NegativeSign ≡ minus
              → is_accepted u (walk u (move_by u.condition u start 45 (Some roles.Sign)) (first ∷ digits))
              ≡ not ((m.condition conditions.BasePrefix || (m.condition conditions.BaseSuffix || refuses_first m.condition first))
              || (m.condition conditions.NegativeSign || (m.flag layout.required_exponent_notation && not m.integers_only)))
          go true is =
              let sign : move_by u.condition u start 45 (Some roles.Sign) ≡ None = grind arith in
              ap (λ o. is_accepted u (walk u o (first ∷ digits))) sign ∙ grind arith
          go false is =
              let sign : move_by u.condition u start 45 (Some roles.Sign) ≡ Some (reading stages.Empty false) = grind arith in
              ap (λ o. is_accepted u (walk u o (first ∷ digits))) sign ∙ ap (λ o. is_accepted u (walk u o digits)) (first_digit stages.Empty refl)
              ∙ (let none = walk_none u.condition u digits in let more = more_digits digits all.1 in grind arith)
