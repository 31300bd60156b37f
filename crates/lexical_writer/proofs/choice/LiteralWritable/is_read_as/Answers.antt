-- What the list reads is the number.
use Rattle.lexical_writer.proofs.choice.LiteralWritable.is_read_as.Goals as goal

pub returns-clause-same : goal.returns-clause-same
returns-clause-same c equal kind g word has = c.is_worth.ensures.worth equal g c.args.arg3.now.literal
