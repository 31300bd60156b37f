-- The fields of what contracts see are the fields.
use Rattle.lexical_literal.proofs.Common.{Some, arith}
use Rattle.std.specs.Ordering.{partial_ordering_then}
use Rattle.std.proofs.Common.{nat_cmp}
use Rattle.lexical_literal.proofs.CompareLemmas.{compared}
use Rattle.lexical_literal.proofs.syntax.GrammarPartialOrd.partial_cmp.Goals as goal

pub returns : goal.returns
returns c =
    rw (← c.t1-1.view_is, ← c.t2-1.view_is) (compared partial_ordering_then (λ a b c. grind arith) (λ m n. Some (nat_cmp m n)) c.t1-1.inside c.t2-1.inside c.t1-1.invariant c.t2-1.invariant
    _ _ _ _ _ _ _ _ _ _ _ c.partial_cmp.ensures c.or_partial_cmp.ensures c.or_partial_cmp-2.ensures c.or_partial_cmp-3.ensures c.or_partial_cmp-4.ensures c.or_partial_cmp-5.ensures c.or_partial_cmp-6.ensures c.or_partial_cmp-7.ensures c.or_partial_cmp-8.ensures c.or_partial_cmp-9.ensures)
