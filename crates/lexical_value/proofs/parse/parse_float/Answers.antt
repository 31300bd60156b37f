-- The format is that of the syntax, and the kind is exact.
use Rattle.lexical_value.proofs.Common.{Err, false, float_worth, format_of, is_binary, is_decimal, raw, subst, ◌||◌, ◌≡◌}
use Rattle.lexical_value.proofs.KindLemmas.{exact_radix}
use Rattle.lexical_value.proofs.parse.parse_float.Goals as goal

pub returns-in-Err-to_float-clause-value : goal.returns-in-Err-to_float-clause-value
returns-in-Err-to_float-clause-value g c =
    let read = c.in-Ok.ensures.found in
    let l = c.in-Ok.literal.literal in
    let f = format_of g.F.Float.DOUBLE in
    let is = exact_radix f (raw c.in-Ok.literal.format) l c.in-Err-to_float.kind
    (subst (λ kind. float_worth kind f (raw c.in-Ok.literal.format).byte l ≡ Err c.in-Err-to_float.kind) c.in-Ok.ensures.kind
    c.in-Err-to_float.ensures.error) in
    (l, read.1, subst (λ w. (is_decimal (raw w).byte || is_binary (raw w).byte) ≡ false) read.0 is.0, is.1)
