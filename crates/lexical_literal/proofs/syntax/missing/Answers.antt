-- A byte that is not absent misses nothing.
use Rattle.lexical_literal.proofs.Common.{ap, raw, sym, ◌∙◌}
use Rattle.lexical_util.specs.Layout as layout
use Rattle.lexical_literal.specs.Syntax.{missing}
use Rattle.lexical_literal.proofs.FieldLemmas.{byte_is, none_if}
use Rattle.lexical_literal.proofs.syntax.missing.Goals as goal

pub returns-in_default : goal.returns-in_default
returns-in_default c = none_if c.grammar.inside.prefix _ _
    (byte_is c.grammar.inside c.args.grammar c.grammar.invariant c.grammar.view_is layout.base_prefix) c.if-prefix-eq0.false
    ∙ ap (missing (raw c.args.grammar.word) c.args.conditions) (sym c.in-BasePrefix.is)

pub returns-in_default-2 : goal.returns-in_default-2
returns-in_default-2 c = none_if c.grammar.inside.suffix _ _
    (byte_is c.grammar.inside c.args.grammar c.grammar.invariant c.grammar.view_is layout.base_suffix) c.if-suffix-eq0.false
    ∙ ap (missing (raw c.args.grammar.word) c.args.conditions) (sym c.in-BaseSuffix.is)
