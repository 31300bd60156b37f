use Rattle.lexical_forms.proofs.Common.{All, length, take, ◌-◌, ◌<◌}
use Rattle.lexical_forms.proofs.opening.is_ascii.Given as goal

abbrev pub invariant-loop-index : goal.invariant-loop-index
invariant-loop-index l = All (λ byte. byte < 128) (take l.index l.bytes)

abbrev pub decreases-loop-index : goal.decreases-loop-index
decreases-loop-index l = length l.bytes - l.index
