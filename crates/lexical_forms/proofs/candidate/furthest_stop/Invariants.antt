use Rattle.lexical_forms.proofs.Common.{length, ◌-◌}
use Rattle.lexical_forms.proofs.FormLemmas.{IsFarthest}
use Rattle.lexical_forms.proofs.candidate.furthest_stop.Given as goal

abbrev pub invariant-loop-form : goal.invariant-loop-form
invariant-loop-form l = IsFarthest l.forms l.text l.form l.furthest

abbrev pub decreases-loop-form : goal.decreases-loop-form
decreases-loop-form l = length l.forms - l.form
