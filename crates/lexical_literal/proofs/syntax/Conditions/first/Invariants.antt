use Rattle.lexical_literal.proofs.Common.{all_conditions, drop, find, has, length, ◌-◌, ◌≡◌}
use Rattle.lexical_literal.proofs.syntax.Conditions.first.Given as goal

abbrev pub invariant-loop-index : goal.invariant-loop-index
invariant-loop-index l = find (has l.self) all_conditions ≡ find (has l.self) (drop l.index all_conditions)

abbrev pub decreases-loop-index : goal.decreases-loop-index
decreases-loop-index l = length all_conditions - l.index
