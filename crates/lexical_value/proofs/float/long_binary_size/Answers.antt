-- The leading digits and the exponent make the value.
use Rattle.lexical_value.proofs.Common.{IsNearestBits, ap, exponent, format_of, mantissa, raw, refl, sym, ◌∙◌}
use Rattle.lexical_util.specs.Layout as layout
use Rattle.lexical_value.proofs.FloatLemmas.{by_bits, of_value}
use Rattle.lexical_value.proofs.float.long_binary_size.Goals as goal

pub returns : goal.returns
returns c =
    let r = raw c.args.literal.now.format in
    let l = c.args.literal.now.literal in
    let radix = c.mantissa_radix.ensures.value ∙ ap (λ w. (raw w).byte layout.mantissa_radix) c.format.ensures ∙ c.requires.radix.2 in
    of_value (λ num den. IsNearestBits (format_of c.args.double) num den c.raised_bits.result) r l (mantissa r.byte l) _ _ (exponent r.byte l) _ _ refl
    (sym c.requires.radix.2) (sym c.requires.base.2) refl c.places-places.ensures c.has_negative_exponent-negative.ensures
    (c.raised_bits.ensures (mantissa r.byte l) (exponent r.byte l) (by_bits _ _ _ _ _ _ radix c.leading_of-leading.ensures.leads)
    c.exponent_of-exponent.ensures)
