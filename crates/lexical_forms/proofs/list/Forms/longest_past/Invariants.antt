use Rattle.lexical_forms.proofs.Common.{length, ◌-◌}
use Rattle.lexical_forms.proofs.FormLemmas.{AreWithin}
use Rattle.lexical_forms.proofs.list.Forms.longest_past.Given as goal

abbrev pub invariant-loop-form : goal.invariant-loop-form
invariant-loop-form l = AreWithin l.self-inside.forms.now l.text l.size l.form l.reached l.longest

abbrev pub decreases-loop-form : goal.decreases-loop-form
decreases-loop-form l = length l.self-inside.forms.now - l.form
