-- What is written is the integer.
use Rattle.lexical_writer.proofs.Common.{Kind, Literal, ap, is_minus, sym, worth, ◌∙◌}
use Rattle.lexical_writer.proofs.ChoiceLemmas.{kept_whole}
use Rattle.lexical_writer.proofs.LiteralLemmas.{minus}
use Rattle.lexical_writer.proofs.choice.WholeWritable.is_plain.Goals as goal

pub returns-then-not-float-clause-plain : goal.returns-then-not-float-clause-plain
returns-then-not-float-clause-plain c equal read kind word float has =
    let negative = c.args.self.now.negative in
    let size = c.args.self.now.size in
    kept_whole negative size c.args._syntax.now read word (float ∙ c.if-not-float.true)
    (ap (λ (k : Kind). worth k.integers negative size) kind ∙ ap (λ k. worth k negative size) (sym c.integers.ensures) ∙ c.is_kept.ensures equal)
    (ap (λ (l : Literal). is_minus l.sign) has.0 ∙ minus negative _) has.1
