-- Why the candidate is not a token.
use Rattle.lexical_forms.proofs.Common.{false, is_followed, refl, subst, sym, ◌≡◌}
use Rattle.lexical_forms.proofs.TokenLemmas.{before_digit, ended, for_some, gone_on, not_both}
use Rattle.lexical_forms.proofs.list.Forms.cut.Goals as goal

pub fail-requires : goal.fail-requires
fail-requires c =
    let t = c.args.tokens.now in
    let apart = not_both _ (subst (λ r. is_followed t.following.now r ≡ false) c.split_at.ensures.back (sym c.if-is_followed.ensures)) in
    gone_on c.args.self.now t c.args.text.now c.args.form c.args.it.now c.args.candidate c.requires.picked apart (c.if-is_ahead.ensures.ahead refl)

pub fail-requires-then-digit_follows : goal.fail-requires-then-digit_follows
fail-requires-then-digit_follows c =
    let t = c.args.tokens.now in
    let apart = not_both _ (subst (λ r. is_followed t.following.now r ≡ false) c.split_at.ensures.back (sym c.if-is_followed.ensures)) in
    before_digit c.args.self.now t c.args.text.now c.args.form c.args.it.now c.args.candidate c.requires.picked apart (c.if-is_ahead.ensures.over refl)
    (sym c.if-not-is_stopped.ensures) (sym c.if-digit_follows.ensures)

pub returns-else-digit_follows-clause-some : goal.returns-else-digit_follows-clause-some
returns-else-digit_follows-clause-some c =
    let t = c.args.tokens.now in
    let apart = not_both _ (subst (λ r. is_followed t.following.now r ≡ false) c.split_at.ensures.back (sym c.if-is_followed.ensures)) in
    for_some _ c.stopped.result (ended c.args.self.now t c.args.text.now c.args.form c.args.it.now c.args.candidate c.requires.picked apart
    (c.if-is_ahead.ensures.over refl) (sym c.if-not-is_stopped.ensures) (sym c.if-digit_follows.ensures) c.stopped.result c.stopped.ensures)
