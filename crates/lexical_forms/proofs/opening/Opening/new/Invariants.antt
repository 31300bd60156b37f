use Rattle.lexical_forms.proofs.Common.{length, take, ◌-◌, ◌≡◌, ◌≤◌}
use Rattle.lexical_forms.proofs.opening.Opening.new.Given as goal

abbrev pub invariant-loop-size : goal.invariant-loop-size
invariant-loop-size l = (l.size ≤ length l.bytes) × (length l.own ≡ 8) × (take l.size l.own ≡ take l.size l.bytes)

abbrev pub decreases-loop-size : goal.decreases-loop-size
decreases-loop-size l = length l.bytes - l.size
