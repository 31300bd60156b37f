use Rattle.lexical_forms.proofs.Common.{IsYet, length, ◌+◌, ◌-◌}
use Rattle.lexical_forms.proofs.list.Forms.longest.Given as goal

abbrev pub invariant-loop-form : goal.invariant-loop-form
invariant-loop-form l = IsYet (record { forms = l.self-inside.forms.now; specials = l.self-inside.specials; tokens = l.self-inside.tokens })
    l.tokens l.text l.least l.form l.found

abbrev pub decreases-loop-form : goal.decreases-loop-form
decreases-loop-form l = length l.self-inside.forms.now + length l.tokens.forms.now - l.form
