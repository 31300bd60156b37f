-- The form goes so far where it stops.
use Rattle.lexical_forms.proofs.form.Form.reached.Goals as goal

pub reach-reach-requires : goal.reach-reach-requires
reach-reach-requires c = c.requires.0.within

pub returns-clause-reach : goal.returns-clause-reach
returns-clause-reach c = (c.args.stop.size, c.requires.0, c.reach-reach.ensures)
