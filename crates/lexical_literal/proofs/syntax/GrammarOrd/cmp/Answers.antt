-- The fields of what contracts see are the fields.
use Rattle.std.specs.Ordering.{ordering_then}
use Rattle.std.proofs.Common.{arith, nat_cmp}
use Rattle.lexical_literal.proofs.CompareLemmas.{compared}
use Rattle.lexical_literal.proofs.syntax.GrammarOrd.cmp.Goals as goal

pub returns : goal.returns
returns c =
    rw (← c.t1-1.view_is, ← c.t2-1.view_is) (compared ordering_then (λ a b c. grind arith) nat_cmp c.t1-1.inside c.t2-1.inside c.t1-1.invariant c.t2-1.invariant
    _ _ _ _ _ _ _ _ _ _ _ c.cmp.ensures c.or_cmp.ensures c.or_cmp-2.ensures c.or_cmp-3.ensures c.or_cmp-4.ensures c.or_cmp-5.ensures c.or_cmp-6.ensures c.or_cmp-7.ensures c.or_cmp-8.ensures c.or_cmp-9.ensures)
