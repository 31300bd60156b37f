-- A zero, and the base prefix.
use Rattle.lexical_literal.proofs.Common.{Conditions, IsOpened, ap, has, steps_of, subst, sym, ◌∙◌}
use Rattle.lexical_literal.specs.declared.syntax.Condition.TheVariants as conditions
use Rattle.lexical_literal.proofs.JoinLemmas.{opened, opened_prefix}
use Rattle.lexical_literal.proofs.scan.open.Goals as goal

pub returns-then-is_prefix : goal.returns-then-is_prefix
returns-then-is_prefix c =
    opened_prefix (steps_of c.args.grammar) c.args.text.now c.requires.ready.roles c.args.sign c.requires.sign c.if-sign-text.true c.if-text-sign-eq48.true
    (sym c.is_prefix.ensures ∙ c.if-is_prefix.true)

pub returns-then-has_first : goal.returns-then-has_first
returns-then-has_first c =
    let m = steps_of c.args.grammar in
    subst (λ stage. IsOpened m c.args.text.now c.args.sign 0 stage) (sym c.requires.stage) (opened m c.args.text.now c.args.sign c.requires.sign
    (ap (λ (k : Conditions). has k conditions.BasePrefix) (sym c.conditions.ensures) ∙ sym c.has.ensures ∙ c.if-not-has.true)
    (sym c.has_first.ensures ∙ c.if-has_first.true))
