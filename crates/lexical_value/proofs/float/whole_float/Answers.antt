-- A rounded integer is no NaN, and one that is worth itself is worth the nearest float.
use Rattle.lexical_value.proofs.Common.{Kind, Some, ap, format_of, is_binary, is_decimal, raw, sym, worth, ◌||◌, ◌∙◌}
use Rattle.std.proofs.lemmas.Result.{IfOk-weaker}
use Rattle.lexical_value.specs.Private.{is_word}
use Rattle.lexical_value.proofs.KindLemmas.{kept_float}
use Rattle.lexical_value.proofs.float.whole_float.Goals as goal

pub returns-in-Digits-clause-value : goal.returns-in-Digits-clause-value
returns-in-Digits-clause-value g c =
    let r = raw c.args.literal.now.format in let l = c.args.literal.now.literal in
    let by = sym (c.integers.ensures ∙ ap (λ (k : Kind). k.integers) c.kind.ensures) in
    let same = c.in-Some-fewer.ensures.digits (ap is_word c.in-Digits.is) in
    let kept = (λ i. worth (by i) (sym c.in-Some.ensures.negative i) (sym c.in-Some.ensures.size i)) ∙ sym c.in-Some-fewer.ensures.worth
    ∙ (λ i. Some ((same.0 ∙ c.in-Some.ensures.negative) i, (same.1 ∙ c.in-Some.ensures.size) i)) in
    IfOk-weaker c.nearest_float.result _ _ (λ value near. kept_float (format_of g.F.Float.DOUBLE) c.args.literal.now.kind r l (g.F.Float.value value)
    (ap (λ w. is_decimal (raw w).byte || is_binary (raw w).byte) (sym c.format.ensures) ∙ sym c.supports_floats.ensures ∙ c.if-not-supports_floats.false)
    c.requires.kind c.requires.integer kept c.in-Some.ensures.fraction c.in-Some.ensures.exponent near) c.nearest_float.ensures.value
