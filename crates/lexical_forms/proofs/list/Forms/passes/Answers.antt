-- The form at the index goes no further.
use Rattle.lexical_forms.proofs.list.Forms.passes.Goals as goal

pub returns : goal.returns
returns c = λ is. (_, c.tried-it.ensures, c.is_passed.ensures is)
