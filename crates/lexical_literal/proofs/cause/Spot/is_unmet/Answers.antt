use Rattle.lexical_literal.proofs.Common.{Bool, Condition, Conditions, ap, arith, bare, false, false≢true, goes, group_at, has, is_same, not, notation_of, sym}
use Rattle.lexical_literal.proofs.Common.{true, with_rules, ◌&&◌, ◌||◌, ◌∙◌, ◌≡◌}
use Rattle.lexical_literal.proofs.NumberLemmas.{has_only}
use Rattle.lexical_literal.proofs.cause.Spot.is_unmet.Goals as goal
use Rattle.lexical_literal.proofs.cause.Spot.is_unmet.Goals.{then-has, else-has}

or_false : (x : Bool) → x ≡ (x || false)
or_false x = grind arith

both : (h f x : Bool) → h ≡ true → f ≡ true → not x ≡ (h && (f && not x))
both h f x is free = grind arith

pub returns-then-goes_on_bare : goal.returns-then-goes_on_bare
returns-then-goes_on_bare c =
    let conditions = c.conditions-conditions.result in
    let same = c.conditions-conditions.ensures in
    let m = notation_of c.args.self.now.grammar in
    elim c.if-has.branch [
      | then-has w ↦
          let set = sym c.has.ensures ∙ w.if-has.true in
          let only : (d : Condition) → has c.only.result d ≡ (is_same c.args.condition d || false) =
          λ d. ap (λ (c : Conditions). has c d) c.only.ensures ∙ has_only conditions c.args.condition d set ∙ or_false _ in
          ap not (c.allows.ensures ∙ (λ j. goes (with_rules m (λ f. c.bare.ensures f j) (λ d. only d j))
          c.args.self.now.read (group_at c.args.self.now) c.args.self.now.byte))
          ∙ both (m.condition c.args.condition) (goes (bare m) c.args.self.now.read (group_at c.args.self.now) c.args.self.now.byte) _
          (ap (λ (k : Conditions). has k c.args.condition) (sym same) ∙ set) (sym w.goes_on_bare.ensures ∙ sym w.value-is ∙ c.if-goes_on_bare.true)
      | else-has w ↦ absurd (false≢true (sym w.if-has.false ∙ sym w.value-is ∙ c.if-goes_on_bare.true))
    ]
