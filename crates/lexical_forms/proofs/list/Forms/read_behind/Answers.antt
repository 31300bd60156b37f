-- The number of the form that has been found.
use Rattle.lexical_forms.proofs.list.Forms.read_behind.Goals as goal

pub returns-in-Ok : goal.returns-in-Ok
returns-in-Ok c = c.in-Ok.ensures.found
