-- What the list reads is the integer.
use Rattle.lexical_writer.proofs.choice.WholeWritable.is_read_as.Goals as goal

pub returns-clause-same : goal.returns-clause-same
returns-clause-same c equal kind g word has = c.is_worth.ensures.worth equal
