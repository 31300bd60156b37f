use Rattle.lexical_forms.proofs.Common.{Begins, length, ◌-◌, ◌≤◌}
use Rattle.lexical_forms.proofs.opening.Opening.opened.Given as goal

abbrev pub invariant-loop-size : goal.invariant-loop-size
invariant-loop-size l = (l.size ≤ l.self.size) × Begins l.self l.text l.size

abbrev pub decreases-loop-size : goal.decreases-loop-size
decreases-loop-size l = length l.text - l.size
