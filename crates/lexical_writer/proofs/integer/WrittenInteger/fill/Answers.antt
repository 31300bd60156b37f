-- The text is all that the buffer has taken.
use Rattle.lexical_writer.proofs.Common.{[]}
use Rattle.lexical_writer.proofs.BufferLemmas.{unused}
use Rattle.lexical_writer.proofs.integer.WrittenInteger.fill.Goals as goal

pub returns : goal.returns
returns c = c.put.ensures c.args.window.now [] (unused c.args.window.now c.requires)
