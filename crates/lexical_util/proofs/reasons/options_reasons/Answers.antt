use Rattle.std.proofs.Common.{rules, ◌↔◌, sym, subst}
use Rattle.lexical_flags.specs.Options.{OptionsFit}
use Rattle.lexical_util.specs.Additions.Reasons.{NoReason}
use Rattle.lexical_util.proofs.ReasonLemmas.{options_fit}
use Rattle.lexical_util.proofs.reasons.options_reasons.Goals as goal

pub returns-clause-slots : goal.returns-clause-slots
returns-clause-slots c = search rules

pub returns-clause-accepted : goal.returns-clause-accepted
returns-clause-accepted c = subst (λ list. OptionsFit c.args.format c.args.exponent c.args.decimal_point ↔ NoReason list)
    (sym (returns-clause-slots c)) (options_fit c.args.format c.args.exponent c.args.decimal_point)
