-- The separator is a field.
use Rattle.lexical_util.specs.Layout as layout
use Rattle.lexical_literal.proofs.FieldLemmas.{byte_is}
use Rattle.lexical_forms.proofs.specials.separator_of.Goals as goal

pub returns : goal.returns
returns c = byte_is c.grammar.inside c.args.grammar c.grammar.invariant c.grammar.view_is layout.digit_separator
