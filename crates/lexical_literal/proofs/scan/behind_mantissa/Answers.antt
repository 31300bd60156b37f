-- An exponent is read, where its character follows.
use Rattle.lexical_literal.proofs.Common.{Stopped, false, steps_of, subst, sym, takes, true, ◌∙◌, ◌≡◌}
use Rattle.lexical_util.specs.declared.feature_format.roles.Role.TheVariants as roles
use Rattle.lexical_literal.proofs.JoinLemmas.{mark_at}
use Rattle.lexical_literal.proofs.scan.behind_mantissa.Goals as goal

pub exponent-requires-clause-at : goal.exponent-requires-clause-at
exponent-requires-clause-at c =
    let m = steps_of c.args.grammar in
    mark_at m c.args.text.now c.requires.ready.roles c.args.mantissa c.args.mantissa.size c.args.mantissa.stage c.if-mantissa-text.true
    (sym c.is_exponent_character.ensures ∙ c.if-is_exponent_character.true)
    (subst (λ (at : Stopped). takes m at.read false roles.Exponent ≡ true) c.at_stage-at.ensures (sym c.takes.ensures
    ∙ c.if-takes.true)) c.requires.free c.requires.at
