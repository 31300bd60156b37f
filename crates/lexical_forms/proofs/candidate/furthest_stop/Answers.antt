-- How far the forms before go, and one form more.
use Rattle.lexical_forms.proofs.Common.{Form, GoesTo, arith, refl, subst, sym, ◌+◌}
use Rattle.lexical_forms.proofs.FormLemmas.{IsFarthest, best_all, far_more}
use Rattle.lexical_forms.proofs.candidate.furthest_stop.Goals as goal

pub loop-form-preserved : goal.loop-form-preserved
loop-form-preserved c =
    let forms = c.args.forms.now in let i = c.loop-form.form in
    subst (IsFarthest forms c.args.text.now (i + 1)) (sym c.further-furthest.ensures)
    (far_more forms c.args.text.now i c.index-forms-form.result c.loop-form-test.true c.stop.result.size
    (subst (λ (g : Form). GoesTo c.args.text.now g c.stop.result.size) c.index-forms-form.is c.stop.ensures.valid)
    c.loop-form.furthest c.loop-form.invariant)

pub returns-in-None : goal.returns-in-None
returns-in-None c = absurd (let none = subst (IsFarthest c.args.forms.now c.args.text.now c.loop-form.form) c.in-None.is c.loop-form.invariant in
    omega (arith, none, c.loop-form-test.false, c.requires))

pub returns-in-Some : goal.returns-in-Some
returns-in-Some c = (
  c.in-Some.field-0-0,
  best_all (GoesTo c.args.text.now) c.args.forms.now c.loop-form.form 0 c.in-Some.field-0-0 c.in-Some.size
      (subst (IsFarthest c.args.forms.now c.args.text.now c.loop-form.form) c.in-Some.is c.loop-form.invariant) c.loop-form-test.false refl,
)
