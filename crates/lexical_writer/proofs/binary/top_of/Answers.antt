-- The first bit of the number is as many bits above the last as its length says.
use Rattle.lexical_writer.proofs.Common.{arith, leading_top}
use Rattle.lexical_writer.proofs.AmountLemmas.{above, under}
use Rattle.lexical_writer.proofs.binary.top_of.Goals as goal

pub returns-else-number-eq0-clause-first : goal.returns-else-number-eq0-clause-first
returns-else-number-eq0-clause-first c some =
    let t = leading_top 64 c.args.number some (omega (arith, c.requires.0)) in
    let count = t.1 in (
      above 2 c.args.number c.args.power t.0 _ (omega arith) t.2 (omega (arith, count)),
      under 2 c.args.number c.args.power t.0 _ (omega arith) t.3 (omega (arith, count)),
    )
