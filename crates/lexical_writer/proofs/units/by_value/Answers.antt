-- What is written has the value of the literal.
use Rattle.lexical_writer.proofs.Common.{HasNumber, IfOk, IsSyntax, Literal, SameFraction, ap, number, number_of_size, raw, subst, sym, ◌∙◌}
use Rattle.lexical_literal.specs.Parts.{literal_of}
use Rattle.lexical_util.specs.Layout as layout
use Rattle.lexical_writer.specs.Conversion.{IsFewest, by_units, most_places}
use Rattle.lexical_writer.proofs.PlainLemmas.{integer_value, units_value}
use Rattle.lexical_writer.proofs.units.by_value.Goals as goal

pub returns-then-is_float-clause-value : goal.returns-then-is_float-clause-value
returns-then-is_float-clause-value c =
    let r = raw c.args.literal.now.format in
    let parts = c.args.parts.now in
    let g = c.args.syntax.now in
    let places = c.fewest-places.result.0 in
    let it = c.fewest-places.result.1 in
    subst (λ result. IfOk result (λ amount. (l : Literal) → IsSyntax g → HasNumber g amount l → SameFraction r (literal_of parts) (raw g.word) l))
    (sym (c.amount_of.ensures ∙ (λ i. by_units (c.is_minus-negative.ensures i) (c.is_whole.ensures i) places it)))
    (units_value r parts g places it (subst (λ l. IsFewest r l (most_places g) places it) (sym c.requires)
    (subst (λ most. IsFewest r c.args.literal.now.literal most places it) c.most_places.ensures c.fewest-places.ensures)))

pub returns-in-Some-clause-value : goal.returns-in-Some-clause-value
returns-in-Some-clause-value c l lawful has =
    let r = raw c.args.literal.now.format in
    let parts = c.args.parts.now in
    let fraction = ap (λ l. l.fraction) c.requires ∙ c.is_float.ensures.fraction c.if-is_float.false in
    let exponent = ap (λ l. l.exponent) c.requires ∙ c.is_float.ensures.exponent c.if-is_float.false in
    let size = c.in-Some.ensures.1 ∙ (λ i. number (c.mantissa_radix.ensures.value i) parts.integer.now)
    ∙ ap (λ w. number ((raw w).byte layout.mantissa_radix) parts.integer.now) c.format.ensures in
    integer_value r parts c.args.syntax.now fraction exponent lawful l
    (subst (λ amount. HasNumber c.args.syntax.now amount l) (c.of_size.ensures ∙ (λ i. number_of_size (c.is_minus-negative.ensures i) (size i))) has)
