-- The parts were counted, and the text is a literal with these.
use Rattle.lexical_literal.proofs.PieceLemmas.{is_read, measured_cut}
use Rattle.lexical_literal.proofs.syntax.Syntax.read_slowly.Goals as goal

pub summed-requires : goal.summed-requires
summed-requires c = measured_cut c.args.self.now c.args.text.now c.in-Some.counts c.in-Some.ensures.some

pub returns-in-Some : goal.returns-in-Some
returns-in-Some c = is_read c.args.self.now c.args.text.now c.in-Some.counts c.in-Some.ensures.some c.summed.result c.summed.ensures
