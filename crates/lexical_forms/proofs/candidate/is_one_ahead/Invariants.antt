use Rattle.lexical_forms.proofs.Common.{All, IsAhead, length, take, ◌-◌}
use Rattle.lexical_forms.proofs.candidate.is_one_ahead.Given as goal

abbrev pub invariant-loop-form : goal.invariant-loop-form
invariant-loop-form l = All (λ form. IsAhead l.back l.text l.end form → ⊥) (take l.form l.forms)

abbrev pub decreases-loop-form : goal.decreases-loop-form
decreases-loop-form l = length l.forms - l.form
