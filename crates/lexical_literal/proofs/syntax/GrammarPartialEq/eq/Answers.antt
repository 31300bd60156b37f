-- The fields of what contracts see are the fields.
use Rattle.lexical_literal.proofs.Common.{arith, ◌&&◌, ◌==◌}
use Rattle.lexical_literal.proofs.CompareLemmas.{compared}
use Rattle.lexical_literal.proofs.syntax.GrammarPartialEq.eq.Goals as goal

pub returns : goal.returns
returns c =
    rw (← c.t1-1.view_is, ← c.t2-1.view_is) (compared ◌&&◌ (λ a b c. grind arith) ◌==◌ c.t1-1.inside c.t2-1.inside c.t1-1.invariant c.t2-1.invariant
    _ _ _ _ _ _ _ _ _ _ _ c.eq.ensures c.and_eq.ensures c.and_eq-2.ensures c.and_eq-3.ensures c.and_eq-4.ensures c.and_eq-5.ensures c.and_eq-6.ensures c.and_eq-7.ensures c.and_eq-8.ensures c.and_eq-9.ensures)
