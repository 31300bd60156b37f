-- What the list reads is the float in the style.
use Rattle.lexical_writer.proofs.Common.{format_of}
use Rattle.lexical_writer.proofs.ChoiceLemmas.{same_real}
use Rattle.lexical_writer.proofs.choice.RealWritable.is_read_as.Goals as goal

pub returns-clause-same : goal.returns-clause-same
returns-clause-same g c equal kind grammar word has =
    let same = c.is_same.ensures equal in
    same_real (format_of g.F.Float.DOUBLE) (g.F.Float.value c.args.self.now.value) _ grammar c.args.own.now c.args.literal.now kind word has.1
    same.0 same.1 same.2
