use Rattle.lexical_literal.proofs.Common.{length, notation_of, ◌-◌}
use Rattle.lexical_literal.proofs.StoppedLemmas.{HasCounted}
use Rattle.lexical_literal.proofs.syntax.Syntax.longest.Given as goal

abbrev pub invariant-loop-role : goal.invariant-loop-role
invariant-loop-role l = HasCounted (notation_of l.self) l.text l.at l.last l.counts l.found

abbrev pub decreases-loop-role : goal.decreases-loop-role
decreases-loop-role l = length l.text - l.at.size
