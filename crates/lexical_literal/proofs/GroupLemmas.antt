-- Groups, counted at once and byte by byte, and runs without empty groups.
use Rattle.lexical_literal.proofs.Common.{Bool, Condition, Flag, Group, HasRoles, HasSizes, List, None, Notation, Part, Some, [], and_from, and_parts, ap}
use Rattle.lexical_literal.proofs.Common.{arith, cases_Bool, drop, false, false_from_ne_true, false≢true, follows, gap_fits, get_or, grown, has_sizes}
use Rattle.lexical_literal.proofs.Common.{if◌then◌else◌, inl, length}
use Rattle.lexical_literal.proofs.Common.{higher, inr, is_grouped, is_size, most, nat_le, nat_lt, nat_tests, not, or_left, or_right, refl, separators_in}
use Rattle.lexical_literal.proofs.Common.{subst, sym, true, unsized, with_rules, ℕ, ◌&&◌, ◌+◌, ◌==◌, ◌||◌, ◌∙◌, ◌∷◌, ◌≡◌, ◌≤◌}
use Rattle.lexical_literal.proofs.Common.{◌<◌}
use Rattle.lexical_literal.specs.Groups.{all_fit, group_sizes, rest_fits}
use Rattle.lexical_util.specs.declared.feature_format.roles.Role.TheVariants as roles
use Rattle.lexical_util.specs.declared.format_flags.Part.TheVariants as parts
use Rattle.lexical_literal.specs.declared.syntax.Condition.TheVariants as conditions
use Rattle.lexical_literal.proofs.RunLemmas.{is_rest}
use Rattle.lexical_literal.proofs.WalkLemmas.{as_role, digit_role}

-- `group part separated digits` is a group of `part`.
abbrev pub group : Part → Bool → ℕ → Group
group part separated digits = record { part = part; separated = separated; digits = digits }

-- `run_fits m g run` is true if the bytes of `run` may follow the group `g`, and the integer may end behind them.
abbrev pub run_fits : Notation → Group → List ℕ → Bool
run_fits m g [] = follows m g None
run_fits m g (b ∷ run) = if m.separator b
    then follows m g (Some roles.Separator) && run_fits m (grown g (Some roles.Separator)) run
    else follows m g (Some roles.Digit) && run_fits m (grown g (Some roles.Digit)) run

module _ (m : Notation) where
  -- `counted g run` is true if the groups of `run` have the right sizes, where the first of them has the digits of `g` before it.
  abbrev pub counted : Group → List ℕ → Bool
  counted g run = if g.separated then rest_fits m (group_sizes m.separator g.digits run)
      else all_fit m (group_sizes m.separator g.digits run)

  -- No group behind a separator has more digits than the greatest.
  at_most : (count : ℕ) → (count == higher m || count == m.number conditions.IntegerGroupSize) ≡ true → count ≤ most m
  at_most count fit = grind (arith, nat_tests)

  -- Groups that are counted at once are those that are counted byte by byte.
  some_counts : (n : ℕ) (bytes : List ℕ) → (count : ℕ) × (counts : List ℕ) × (group_sizes m.separator n bytes ≡ (n + count) ∷ counts)
  some_counts n [] = let same : n ≡ n + 0 = omega arith in (0, [], ap (λ k. k ∷ []) same)
  some_counts n (b ∷ bytes) = elim (cases_Bool (m.separator b)) [
    | inl is ↦
        let same : n ≡ n + 0 = omega arith in
        let counts = group_sizes m.separator 0 bytes in (0, counts, rw (is) (ap (λ k. k ∷ counts) same))
    | inr other ↦
        let rest = some_counts (n + 1) bytes in let same : n + 1 + rest.0 ≡ n + (rest.0 + 1) = omega arith in
        (rest.0 + 1, rest.1, rw (other) (rest.2 ∙ ap (λ k. k ∷ rest.1) same))
  ]

  -- One more digit, one more separator, and the end.
  counts_digit : (g : Group) (b : ℕ) (run : List ℕ) → m.separator b ≡ false → counted g (b ∷ run) ≡ counted (grown g (Some roles.Digit)) run
  counts_digit g b run other = rw (other) refl

  counts_separator : (g : Group) (b : ℕ) (run : List ℕ) → m.separator b ≡ true
      → counted g (b ∷ run) ≡ (follows m g (Some roles.Separator) && counted (grown g (Some roles.Separator)) run)
  counts_separator g b run is = let some = some_counts 0 run in rw (is, some.2) (either g.separated) where
    either : (separated : Bool) → (if separated then rest_fits m (g.digits ∷ (0 + (some_counts 0 run).0) ∷ (some_counts 0 run).1)
        else all_fit m (g.digits ∷ (0 + (some_counts 0 run).0) ∷ (some_counts 0 run).1))
        ≡ ((if separated then g.digits == higher m else nat_lt 0 g.digits && nat_le g.digits (higher m))
        && rest_fits m ((0 + (some_counts 0 run).0) ∷ (some_counts 0 run).1))
    either true = refl
    either false = grind arith

  -- The first of some bytes is counted.
  pub counts_first : (g : Group) (text : List ℕ) → 1 ≤ length text → counted g text ≡ (if m.separator (get_or text 0 0)
      then (follows m g (Some roles.Separator) && counted (grown g (Some roles.Separator)) (drop 1 text))
      else counted (grown g (Some roles.Digit)) (drop 1 text))
  counts_first g [] some = absurd (omega (arith, some))
  counts_first g (b ∷ run) some = elim (cases_Bool (m.separator b)) [
    | inl is ↦ let one = counts_separator g b run is in one ∙ rw (is) refl
    | inr other ↦ let one = counts_digit g b run other in one ∙ rw (other) refl
  ]

  pub counts_end : (g : Group) → follows m g None ≡ counted g []
  counts_end g = either g.separated where
    either : (separated : Bool) → (not separated || g.digits == m.number conditions.IntegerGroupSize)
        ≡ (if separated then g.digits == m.number conditions.IntegerGroupSize else true)
    either true = refl
    either false = refl

  -- A group of several is not too large for one digit more.
  may_grow : (digits count : ℕ) (counts : List ℕ) → rest_fits m ((digits + 1 + count) ∷ counts) ≡ true → nat_lt digits (most m) ≡ true
  may_grow digits count x2 fit = grind (arith, at_most, nat_tests)

  absorbed : (a b : Bool) → (b ≡ true → a ≡ true) → (a && b) ≡ b
  absorbed x0 b if_b = grind arith

  sizes_fit : (g : Group) (run : List ℕ) → run_fits m g run ≡ counted g run
  sizes_fit g [] = counts_end g
  sizes_fit g (b ∷ run) = elim (cases_Bool (m.separator b)) [
    | inl is ↦ let rest = sizes_fit (grown g (Some roles.Separator)) run in let step = counts_separator g b run is in rw (step) (rw (is, rest) refl)
    | inr other ↦ let rest = sizes_fit (grown g (Some roles.Digit)) run in let step = counts_digit g b run other in
        rw (step) (rw (other, rest) (longer g.separated))
  ] where
    longer : (separated : Bool)
        → ((not separated || nat_lt g.digits (most m)) && counted (record g { separated = separated; digits = g.digits + 1 }) run)
        ≡ counted (record g { separated = separated; digits = g.digits + 1 }) run
    longer true = let some = some_counts (g.digits + 1) run in rw (some.2) (absorbed _ _ (may_grow g.digits some.0 some.1))
    longer false = refl

-- A digit run is grouped if its bytes fit one by one.
pub grouped_is : (m : Notation) (run : List ℕ) → is_grouped m run ≡ run_fits m (group parts.Integer false 0) run
grouped_is m run = sym (sizes_fit m (group parts.Integer false 0) run)

-- No group of several is empty.
pub not_empty : (m : Notation) → HasSizes m → has_sizes m ≡ true → (0 < higher m) × (0 < m.number conditions.IntegerGroupSize)
not_empty m sizes is = grind (arith, nat_tests)

-- A digit is no separator.
pub one_role : (m : Notation) → HasRoles m → (part : Part) (b : ℕ) → m.digit part b ≡ true → m.separator b ≡ false
one_role m h part b digit = false_from_ne_true _ (λ is.
    let same = h.one roles.Digit roles.Separator b (as_role m part b roles.Digit (digit_role m part b digit)) is in cc)

-- A run without empty groups needs no flag but the one on separators between digits.
module _ (m : Notation) (h : HasRoles m) (part : Part) (sizes : HasSizes m) (sized : has_sizes m ≡ true) (B : Flag → Bool) (D : Condition → Bool)
    (internal : m.flag (separators_in part).internal ≡ true → B (separators_in part).internal ≡ true) where
  abbrev n : Notation
  n = with_rules m B D

  -- `seen separated digits` is true if there is a digit before, and `gap separated digits` if the last byte is a separator.
  abbrev seen : Bool → ℕ → Bool
  seen separated digits = separated || nat_lt 0 digits

  abbrev gap : Bool → ℕ → Bool
  gap separated digits = separated && (digits == 0)

  at_end : (separated : Bool) (digits : ℕ) → follows m (group part separated digits) None ≡ true → gap separated digits ≡ false
  at_end x0 digits fit = grind arith

  before : (separated : Bool) (digits : ℕ) → follows m (group part separated digits) (Some roles.Separator) ≡ true → nat_lt 0 digits ≡ true
  before x0 digits fit = grind arith

  pub tighter : (separated : Bool) (digits : ℕ) (run : List ℕ) → run_fits m (group part separated digits) run ≡ true
      → is_rest m part (seen separated digits) (gap separated digits) run ≡ true → is_rest n part (seen separated digits) (gap separated digits) run ≡ true
  tighter separated digits [] fit is = let none = at_end separated digits fit in rw (none) refl
  tighter separated digits (b ∷ run) fit is = elim (cases_Bool (m.digit part b)) [
    | inl digit ↦
        let more = and_parts (follows m (group part separated digits) (Some roles.Digit)) _ (rw (one_role m h part b digit) at fit) in
        let rest = and_parts (gap_fits m part (seen separated digits) (gap separated digits) true) _ (rw (digit) at is) in
        let some : seen separated (digits + 1) ≡ true = grind (arith, nat_tests) in
        let none : gap separated (digits + 1) ≡ false = grind (arith, nat_tests) in
        rw (digit) (and_from _ _ (place (seen separated digits) (gap separated digits) (grind arith) rest.0)
        (subst (λ t. is_rest n part t false run ≡ true) some (subst (λ t. is_rest n part (seen separated (digits + 1)) t run ≡ true) none
        (tighter separated (digits + 1) run more.1 (subst (λ t. is_rest m part (seen separated (digits + 1)) t run ≡ true) (sym none)
        (subst (λ t. is_rest m part t false run ≡ true) (sym some) rest.1))))))
    | inr other ↦
        let all = and_parts (m.separator b && (not (gap separated digits) || m.flag (separators_in part).consecutive)) _ (rw (other) at is) in
        let rest = and_parts (m.separator b) _ all.0 in
        let more = and_parts (follows m (group part separated digits) (Some roles.Separator)) _ (rw (rest.0) at fit) in
        let some = before separated digits more.0 in
        let sees : seen separated digits ≡ true = or_right separated _ some in
        let none : gap separated digits ≡ false = grind (arith, nat_tests) in
        rw (other) (and_from _ _ (and_from _ _ rest.0 (or_left _ _ (ap not none))) (subst (λ t. is_rest n part t true run ≡ true) (sym sees)
        (tighter true 0 run more.1 (subst (λ t. is_rest m part t true run ≡ true) sees all.1))))
  ] where
    place : (s g : Bool) → (g ≡ true → s ≡ true) → gap_fits m part s g true ≡ true → gap_fits n part s g true ≡ true
    place s false sees is = refl
    place true true sees is = internal is
    place false true sees is = absurd (false≢true (sees refl))

-- Without sizes, a notation is the same without them.
pub same_unsized : (m : Notation) → ((c : Condition) → is_size c ≡ true → m.condition c ≡ false) → unsized m ≡ m
same_unsized m none = grind arith
