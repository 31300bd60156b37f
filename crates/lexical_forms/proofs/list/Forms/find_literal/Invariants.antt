use Rattle.lexical_forms.proofs.Common.{IsLed, NoForm, length, take, ◌+◌, ◌-◌}
use Rattle.lexical_forms.proofs.list.Forms.find_literal.Given as goal

abbrev pub invariant-loop-form : goal.invariant-loop-form
invariant-loop-form l = NoForm (take l.form l.self-inside.forms.now) l.text × IsLed l.self-inside.forms.now l.text l.form (l.bound + 1) l.furthest

abbrev pub decreases-loop-form : goal.decreases-loop-form
decreases-loop-form l = length l.self-inside.forms.now - l.form
