-- The opening is not there.
use Rattle.lexical_forms.proofs.Common.{refl}
use Rattle.lexical_forms.proofs.form.Form.lacks_opening.Goals as goal

pub returns-clause-error : goal.returns-clause-error
returns-clause-error c = record { name = refl; refusal = c.requires; unopened = (c.byte_at-byte.ensures, c.tail_at-tail.ensures, refl) }
