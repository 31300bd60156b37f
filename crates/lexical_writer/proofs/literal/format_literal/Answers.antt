-- What is written of a literal has its value.
use Rattle.lexical_writer.proofs.Common.{IfOk-weaker, SameFraction, literal_of, raw, subst}
use Rattle.lexical_writer.proofs.literal.format_literal.Goals as goal

pub returns-clause-value : goal.returns-clause-value
returns-clause-value c =
    let r = raw c.args.literal.now.format in
    let g = c.args.syntax.now in
    IfOk-weaker _ _ _ (λ layout has. subst (λ l. SameFraction r l (raw g.word) (literal_of layout)) c.cut-parts.ensures.parts
    (c.in_ok-amount.ensures.value (literal_of layout) c.lay_out.ensures.lawful has)) c.lay_out.ensures.number
