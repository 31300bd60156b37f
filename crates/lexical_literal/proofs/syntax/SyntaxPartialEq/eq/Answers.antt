-- The grammars are compared, and what is known of them.
use Rattle.lexical_literal.proofs.Common.{Bool, arith, ◌&&◌, ◌∙◌, ◌≡◌}
use mathlib.Core.Bool.{beq}
use Rattle.lexical_literal.proofs.syntax.SyntaxPartialEq.eq.Goals as goal

turned : (r e g u : Bool) → r ≡ (e && g) → e ≡ u → r ≡ (g && u)
turned r e g u R E = grind arith

pub returns : goal.returns
returns c = rw (← c.t1-1.view_is, ← c.t2-1.view_is)
    (turned _ _ _ _ c.and_eq.ensures (c.eq.ensures ∙ (λ i. beq (c.t1-1.invariant.1 i) (c.t2-1.invariant.1 i))))
