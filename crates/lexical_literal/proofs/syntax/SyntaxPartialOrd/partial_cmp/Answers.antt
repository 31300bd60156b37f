-- The grammars are compared, and then what is known of them.
use Rattle.lexical_literal.proofs.Common.{Option, Ordering, ap, ◌∙◌, ◌≡◌}
use Rattle.std.specs.Ordering.{partial_ordering_then}
use Rattle.lexical_literal.proofs.syntax.SyntaxPartialOrd.partial_cmp.Goals as goal

chain : (r first a second : Option Ordering) → first ≡ a → r ≡ partial_ordering_then first second → r ≡ partial_ordering_then a second
chain r first a second one two = two ∙ ap (λ o. partial_ordering_then o second) one

pub returns : goal.returns
returns c = rw (← c.t1-1.view_is, ← c.t2-1.view_is, ← c.t1-1.invariant.1, ← c.t2-1.invariant.1)
    (chain _ _ _ _ c.partial_cmp.ensures c.or_partial_cmp.ensures)
