-- The sign is written, and then the digits.
use Rattle.lexical_writer.proofs.Common.{append_assoc, arith}
use Rattle.lexical_writer.proofs.integer.WrittenInteger.put_plain.Goals as goal

pub returns : goal.returns
returns g c start text has = grind (arith, append_assoc)
