-- The longest front of the forms that have been asked.
use Rattle.lexical_forms.proofs.Common.{IsNone, refl, subst, sym, ◌+◌}
use Rattle.lexical_forms.proofs.FormLemmas.{AreWithin, front_more, front_stays, longest_past_is}
use Rattle.lexical_forms.proofs.list.Forms.longest_past.Goals as goal
use Rattle.lexical_forms.proofs.list.Forms.longest_past.Goals.{in-Some, in_default}

pub loop-form-preserved : goal.loop-form-preserved
loop-form-preserved c =
    let forms = c.self.inside.forms.now in let text = c.args.text.now in let size = c.args.size in
    let i = c.loop-form.form in let d = c.index-self-form.result in let inside = c.loop-form-test.true in
    let reached = c.loop-form.reached in let longest = c.loop-form.longest in let old = c.loop-form.invariant in
    let join = c.match-front_past in
    elim join.branch [
      | in-Some w ↦
          let is = w.in-Some.ensures.some in
          subst (λ r. AreWithin forms text size (i + 1) r join.longest) (sym w.reached-is)
          (subst (AreWithin forms text size (i + 1) w.in-Some.found.size) (sym w.longest-is)
          (front_more forms text size i d inside reached longest old w.in-Some.found is))
      | in_default w ↦ subst (λ r. AreWithin forms text size (i + 1) r join.longest) (sym w.reached-is)
          (subst (AreWithin forms text size (i + 1) reached) (sym w.longest-is) (front_stays forms text size i d inside reached longest old
          (c.front_past.ensures.none (subst IsNone (sym w.in_default.is) refl))))
    ]

pub returns : goal.returns
returns c = rw (← c.self.view_is) (longest_past_is c.self.inside.forms.now c.args.text.now c.args.size c.loop-form.form c.loop-form-test.false
    c.loop-form.reached c.loop-form.longest c.loop-form.invariant)
