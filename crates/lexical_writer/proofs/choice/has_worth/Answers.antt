-- A literal with a decimal point or an exponent is worth a float or not, and another one an integer or not.
use Rattle.lexical_writer.proofs.Common.{sym, ◌∙◌}
use Rattle.lexical_writer.proofs.ChoiceLemmas.{worth_is}
use Rattle.lexical_writer.proofs.choice.has_worth.Goals as goal

pub returns-else-is_float : goal.returns-else-is_float
returns-else-is_float c = c.is_ok-else-is_float.ensures.value
    ∙ worth_is c.args.literal.now c.own_numeral.result (sym c.is_float.ensures.value ∙ c.if-is_float.false) c.own_numeral.ensures
