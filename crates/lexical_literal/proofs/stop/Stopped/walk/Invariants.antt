use Rattle.lexical_literal.proofs.Common.{IsUnderway, length, notation_of, ◌-◌}
use Rattle.lexical_literal.proofs.stop.Stopped.walk.Given as goal

abbrev pub invariant-loop-next : goal.invariant-loop-next
invariant-loop-next l = IsUnderway (notation_of l.syntax) l.text l.stop l.last

abbrev pub decreases-loop-next : goal.decreases-loop-next
decreases-loop-next l = length l.text - l.stop.size
