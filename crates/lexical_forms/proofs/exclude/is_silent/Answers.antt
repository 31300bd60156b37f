-- A byte above `9` that is a stranger, and is not the base prefix.
use Rattle.lexical_forms.proofs.Common.{AreFalse, arith, raw, subst}
use Rattle.lexical_util.specs.Layout as layout
use Rattle.lexical_util.specs.Roles.{cased}
use Rattle.lexical_literal.proofs.FieldLemmas.{byte_is}
use Rattle.lexical_forms.proofs.StrangerLemmas.{not_zero, silent_of}
use Rattle.lexical_forms.proofs.exclude.is_silent.Goals as goal

pub returns : goal.returns
returns c = λ is.
    let g = c.args.grammar in let byte = c.args.byte in let counts = (raw g.word).flag layout.case_sensitive_base_prefix in
    let above = c.if-byte-le57.false in
    let stranger = c.is_stranger.ensures c.if-not-is_stranger.false in
    let prefix = subst (λ own. AreFalse (cased counts own) byte) (byte_is c.grammar.inside g c.grammar.invariant c.grammar.view_is layout.base_prefix)
    (c.is_apart.ensures is counts) in
    (silent_of g byte byte (λ same. absurd (omega (arith, above, same))) stranger.0 prefix.0, silent_of g byte _ (not_zero g byte above) stranger.1 prefix.1)
