-- Nothing but the base prefix may follow its zero.
use Rattle.lexical_literal.proofs.Common.{IsBegun, IsRefused, at_stage, get_or, steps_of, subst, sym, ◌+◌}
use Rattle.lexical_literal.proofs.JoinLemmas.{sign_at}
use Rattle.lexical_literal.proofs.PassedLemmas.{zero_passed}
use Rattle.lexical_literal.proofs.scan.without_prefix.Goals as goal

pub unfinished-requires-clause-refused : goal.unfinished-requires-clause-refused
unfinished-requires-clause-refused c holds =
    let m = steps_of c.args.grammar in
    let text = c.args.text.now in
    let missed = c.misses_prefix.ensures holds in
    subst (IsRefused m text) (sym c.at_stage.ensures) (missed.0, zero_passed m missed.1 (get_or text (c.args.sign + 1) 0) missed.2)

pub unfinished-requires-else-sign-text-clause-begun : goal.unfinished-requires-else-sign-text-clause-begun
unfinished-requires-else-sign-text-clause-begun c =
    let m = steps_of c.args.grammar in
    let text = c.args.text.now in
    subst (IsBegun m text) (sym c.at_stage-else-sign-text.ensures) (subst (λ stage. IsBegun m text (at_stage c.args.sign stage)) (sym c.requires.stage)
    (sign_at m text c.args.sign c.requires.sign).begun)
