-- An integer that is worth itself is worth the nearest float.
use Rattle.lexical_value.proofs.Common.{Kind, Some, ap, false_from_ne_true, is_exact, is_float, raw, sym, true≢false, worth, ◌∙◌}
use Rattle.lexical_value.proofs.KindLemmas.{kept_worth}
use Rattle.lexical_value.proofs.float.nearest_kind.Goals as goal

pub returns-in-Some-clause-some : goal.returns-in-Some-clause-some
returns-in-Some-clause-some c = λ f.
    let r = raw c.args.literal.now.format in let l = c.args.literal.now.literal in
    let by = sym (c.integers-integers.ensures ∙ ap (λ (k : Kind). k.integers) c.kind-kind.ensures) in
    let kept = (λ i. worth (by i) (sym c.in-Some.ensures.negative i) (sym c.in-Some.ensures.size i)) ∙ c.keeps.ensures c.if-keeps.true
    ∙ (λ i. Some (c.in-Some.ensures.negative i, c.in-Some.ensures.size i)) in
    kept_worth f c.args.literal.now.kind r l (ap is_exact by ∙ sym c.is_exact.ensures ∙ c.if-is_exact.false)
    (false_from_ne_true (is_float l) (λ is. true≢false (c.in-Some.ensures.float.0 is))) kept c.in-Some.ensures.fraction c.in-Some.ensures.exponent
