use Rattle.lexical_literal.proofs.Common.{index_behind, kind_set, length, notation_of, ◌≡◌}
use Rattle.lexical_literal.proofs.span.index_behind.Given as goal

abbrev pub invariant-loop-front : goal.invariant-loop-front
invariant-loop-front l = index_behind (kind_set (notation_of l.grammar) l.kind) l.text ≡ index_behind (kind_set (notation_of l.grammar) l.kind) l.front

abbrev pub decreases-loop-front : goal.decreases-loop-front
decreases-loop-front l = length l.front
