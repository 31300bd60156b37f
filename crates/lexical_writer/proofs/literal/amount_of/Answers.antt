-- The own digits have the value of the literal.
use Rattle.lexical_writer.proofs.Common.{HasNumber, ap, raw, subst, sym, ◌∙◌}
use Rattle.lexical_util.specs.declared.format_flags.Part.TheVariants as part
use Rattle.lexical_writer.specs.Conversion.{keeps}
use Rattle.lexical_writer.proofs.ConversionLemmas.{same_own}
use Rattle.lexical_writer.proofs.LiteralLemmas.{radixes}
use Rattle.lexical_writer.proofs.literal.amount_of.Goals as goal

pub returns-then-not-is_unwanted-clause-value : goal.returns-then-not-is_unwanted-clause-value
returns-then-not-is_unwanted-clause-value c l lawful has =
    let g = c.args.syntax.now in
    same_own (raw c.args.literal.now.format) c.args.parts.now g (ap (λ w. keeps (raw w) c.args.parts.now g) (sym c.format.ensures) ∙ sym c.keeps.ensures ∙ c.if-not-keeps.false)
    (radixes g.word lawful.lawful part.Integer).0 l (subst (λ amount. HasNumber g amount l) c.own_amount.ensures has)

pub returns-in-Err-clause-value : goal.returns-in-Err-clause-value
returns-in-Err-clause-value c l lawful has =
    let g = c.args.syntax.now in
    same_own (raw c.args.literal.now.format) c.args.parts.now g (ap (λ w. keeps (raw w) c.args.parts.now g) (sym c.format.ensures) ∙ sym c.keeps.ensures ∙ c.if-not-keeps.false)
    (radixes g.word lawful.lawful part.Integer).0 l (subst (λ amount. HasNumber g amount l) c.own_amount-in-Err.ensures has)
