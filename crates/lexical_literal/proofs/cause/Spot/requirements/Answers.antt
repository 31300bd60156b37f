-- Flags that refuse alone, or those on leading zeros.
use Rattle.lexical_literal.proofs.Common.{Bool, Conditions, Spot, all_conditions, ap, arith, bare, goes, group_at, has, kept, list_any, nat_tests, not}
use Rattle.lexical_literal.proofs.Common.{notation_of, number_of, requiring, some_unmet, unmet, ◌&&◌, ◌∙◌, ◌≡◌}
use Rattle.lexical_literal.proofs.NumberLemmas.{has_kept}
use Rattle.lexical_literal.proofs.cause.Spot.requirements.Goals as goal

-- No condition is to blame if none is kept.
none_is : (t : Spot) (k : Conditions) (is : Bool) → let m = notation_of t.grammar in k
    ≡ kept (unmet m t.read (group_at t) t.byte) (number_of t.grammar.conditions)
    → is ≡ not (list_any (has k) all_conditions) → is ≡ not (some_unmet m t.read (group_at t) t.byte)
none_is t k is same none =
    let m = notation_of t.grammar in
    none ∙ (λ j. not (list_any (λ d. (ap (λ (k : Conditions). has k d) same ∙ has_kept t.grammar.conditions (λ d. goes (bare m) t.read (group_at t) t.byte
    && not (goes (requiring d (bare m)) t.read (group_at t) t.byte)) d) j) all_conditions))

pub returns-then-is_none : goal.returns-then-is_none
returns-then-is_none c = grind (arith, nat_tests, none_is)

pub returns-else-alone-eq0 : goal.returns-else-alone-eq0
returns-else-alone-eq0 c = grind (arith, none_is, nat_tests)
