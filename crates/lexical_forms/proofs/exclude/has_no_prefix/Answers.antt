-- A literal begins with the prefix that is required.
use Rattle.lexical_forms.proofs.Common.{ap, arith, has, sym, ◌∙◌}
use Rattle.lexical_literal.specs.declared.syntax.Condition.TheVariants as conditions
use Rattle.lexical_forms.proofs.LeadingLemmas.{lacking_none, lacking_within}
use Rattle.lexical_forms.proofs.exclude.has_no_prefix.Goals as goal

pub returns-then-has-clause-none : goal.returns-then-has-clause-none
returns-then-has-clause-none c = λ is. lacking_none _ c.args.text.now (ap (λ k. has k conditions.BasePrefix) (sym c.conditions.ensures) ∙ sym c.has.ensures ∙ c.if-has.true)
    (let prefix = c.has_prefix.ensures in let sign = c.sign_size.ensures.size in grind arith)

pub returns-then-has-clause-within : goal.returns-then-has-clause-within
returns-then-has-clause-within c = λ is. lacking_within _ c.args.text.now (ap (λ k. has k conditions.BasePrefix) (sym c.conditions.ensures) ∙ sym c.has.ensures ∙ c.if-has.true)
    (let prefix = c.has_prefix.ensures in let sign = c.sign_size.ensures.size in grind arith)
