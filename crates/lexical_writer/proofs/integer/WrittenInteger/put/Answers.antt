-- The text that is known is that of the literal.
use Rattle.lexical_writer.proofs.Common.{arith}
use Rattle.lexical_writer.proofs.integer.WrittenInteger.put.Goals as goal

pub returns-then-is_plain : goal.returns-then-is_plain
returns-then-is_plain g c start text has = grind arith
