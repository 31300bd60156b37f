-- The byte is not the letter, in either case.
use Rattle.lexical_forms.proofs.Common.{AreFalse, raw, subst}
use Rattle.lexical_util.specs.Layout as layout
use Rattle.lexical_util.specs.Roles.{cased}
use Rattle.lexical_literal.proofs.FieldLemmas.{byte_is}
use Rattle.lexical_forms.proofs.exclude.is_excluded_second.Goals as goal

pub returns-then-has-clause-letter : goal.returns-then-has-clause-letter
returns-then-has-clause-letter c = λ is required.
    let counts = (raw c.args.grammar.word).flag layout.case_sensitive_base_prefix in
    subst (λ own. AreFalse (cased counts own) c.args.byte)
    (byte_is c.grammar.inside c.args.grammar c.grammar.invariant c.grammar.view_is layout.base_prefix) (c.is_apart.ensures is counts)
