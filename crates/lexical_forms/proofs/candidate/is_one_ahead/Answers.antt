-- The forms before have no literal that goes on.
use Rattle.lexical_forms.proofs.Common.{All, All-more, IsAhead, subst, sym, take_all}
use Rattle.lexical_forms.proofs.TokenLemmas.{not_ahead}
use Rattle.lexical_forms.proofs.candidate.is_one_ahead.Goals as goal

pub loop-form-preserved : goal.loop-form-preserved
loop-form-preserved c =
    let it = c.index-forms-form.result in
    All-more (λ form. IsAhead c.args.back c.args.text.now c.args.end form → ⊥) c.args.forms.now c.loop-form.form it c.loop-form-test.true
    c.loop-form.invariant (subst (λ form. IsAhead c.args.back c.args.text.now c.args.end form → ⊥) c.index-forms-form.is
    (not_ahead c.args.back c.args.text.now c.args.end it c.stop-stop.result.size c.stop-stop.ensures.valid
    (sym c.if-goes_on.ensures)))

pub returns-clause-over : goal.returns-clause-over
returns-clause-over c _ = subst (All (λ form. IsAhead c.args.back c.args.text.now c.args.end form → ⊥))
    (take_all c.loop-form.form c.args.forms.now c.loop-form-test.false) c.loop-form.invariant
