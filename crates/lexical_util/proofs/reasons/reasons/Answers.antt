use Rattle.std.proofs.Common.{arith, ◌↔◌, sym, subst}
use Rattle.std.proofs.lemmas.Grind.{common_steps}
use Rattle.lexical_flags.specs.Rules.{Holds, Lawful}
use Rattle.lexical_util.specs.Additions.Reasons.{EachReason, NoReason, Breaks}
use Rattle.lexical_util.proofs.ReasonLemmas.{by_rules, no_reason}
use Rattle.lexical_util.proofs.reasons.reasons.Goals as goal

pub returns-clause-slots : goal.returns-clause-slots
returns-clause-slots c = grind (arith, common_steps)

pub returns-clause-lawful : goal.returns-clause-lawful
returns-clause-lawful c = subst (λ list. Lawful c.args.format ↔ NoReason list) (sym (returns-clause-slots c)) (no_reason c.args.format)

pub returns-clause-rules : goal.returns-clause-rules
returns-clause-rules c rule = subst (λ list. Holds rule c.args.format ↔ EachReason (λ r. Breaks r rule → ⊥) list)
    (sym (returns-clause-slots c)) (by_rules c.args.format rule)
