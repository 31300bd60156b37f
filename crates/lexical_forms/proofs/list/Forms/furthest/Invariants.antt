use Rattle.lexical_forms.proofs.Common.{Leads, length, ◌-◌}
use Rattle.lexical_forms.proofs.list.Forms.furthest.Given as goal

abbrev pub invariant-loop-form : goal.invariant-loop-form
invariant-loop-form l = Leads l.self-inside.forms.now l.text l.form 0 l.furthest

abbrev pub decreases-loop-form : goal.decreases-loop-form
decreases-loop-form l = length l.self-inside.forms.now - l.form
