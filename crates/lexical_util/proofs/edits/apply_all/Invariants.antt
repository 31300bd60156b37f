use Rattle.std.proofs.Common.{length, ◌-◌}
use Rattle.lexical_util.proofs.EditLemmas.{HasApplied}
use Rattle.lexical_util.proofs.edits.apply_all.Given as goal

abbrev pub invariant-loop-index : goal.invariant-loop-index
invariant-loop-index l = HasApplied l.initial.builder l.edits l.index l.builder

abbrev pub decreases-loop-index : goal.decreases-loop-index
decreases-loop-index l = length l.edits - l.index
