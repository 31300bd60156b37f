-- The integer, and what follows it.
use Rattle.lexical_literal.proofs.Common.{IsBegun, Stopped, refl, steps_of, subst, sym, takes, true, false, ◌+◌, ◌-◌, ◌∙◌, ◌≡◌}
use Rattle.lexical_util.specs.declared.feature_format.roles.Role.TheVariants as roles
use Rattle.lexical_literal.proofs.JoinLemmas.{integer_at, point_at}
use Rattle.lexical_literal.proofs.scan.scan.Goals as goal

pub fraction-requires-clause-at : goal.fraction-requires-clause-at
fraction-requires-clause-at c =
    let m = steps_of c.args.grammar in
    let text = c.args.text.now in
    let run = c.digits-run.result in
    let sign = c.in-Some.sign in
    let prefix = c.in-Some-open.prefix in
    point_at m text c.requires.ready.roles (record run { sign = sign; prefix = prefix; integer = run.size - (sign + prefix); point = 0; fraction = 0 })
    run.size run.stage refl c.if-run-text.true (sym c.is_point.ensures ∙ c.if-is_point.true)
    (subst (λ (at : Stopped). takes m at.read false roles.Point ≡ true) c.at_stage-at.ensures (sym c.takes.ensures ∙ c.if-takes.true)) c.digits-run.ensures.free
    (integer_at m text sign prefix c.in-Some-open.stage c.in-Some-open.ensures run.size run.stage c.digits-run.ensures.run.on)

pub behind_mantissa-requires-clause-at : goal.behind_mantissa-requires-clause-at
behind_mantissa-requires-clause-at c = integer_at (steps_of c.args.grammar) c.args.text.now c.in-Some.sign c.in-Some-open.prefix c.in-Some-open.stage
    c.in-Some-open.ensures c.digits-run.result.size c.digits-run.result.stage c.digits-run.ensures.run.on

pub unfinished-requires-then-not-has_digit-clause-begun : goal.unfinished-requires-then-not-has_digit-clause-begun
unfinished-requires-then-not-has_digit-clause-begun c =
    let m = steps_of c.args.grammar in
    let run = c.digits-run.result in
    subst (IsBegun m c.args.text.now) (sym c.at_stage.ensures)
    (integer_at m c.args.text.now c.in-Some.sign c.in-Some-open.prefix c.in-Some-open.stage c.in-Some-open.ensures run.size run.stage
    c.digits-run.ensures.run.on).begun
