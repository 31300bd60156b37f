-- What is written is the float, or the float that is rounded.
use Rattle.lexical_writer.proofs.Common.{ap, format_of, has_floats, is_exact, sym, within, ◌||◌, ◌∙◌}
use Rattle.lexical_writer.proofs.ChoiceLemmas.{plain_real}
use Rattle.lexical_writer.proofs.choice.RealWritable.is_plain.Goals as goal

pub returns-then-is_nearest-clause-plain : goal.returns-then-is_nearest-clause-plain
returns-then-is_nearest-clause-plain g c equal read kind word float has =
    plain_real (format_of g.F.Float.DOUBLE) (g.F.Float.value c.args.self.now.value) c.args.style.decimals c.args.syntax.now read word
    (sym (c.supports_floats.ensures ∙ ap has_floats (c.view.ensures.word ∙ c.format.ensures.word)) ∙ c.if-not-supports_floats.false)
    ((λ i. (kind i).floats) ∙ c.is_nearest.ensures.near c.if-is_nearest.true)
    (λ negative n near same. (λ i. within (kind i).limits negative n near) ∙ (λ i. within (sym c.limits.ensures i) negative n near)
    ∙ c.is_within.ensures.near equal negative n near same)
    ((λ i. is_exact (kind i).integers || float i) ∙ c.is_nearest.ensures.plain c.if-is_nearest.true) has.1
