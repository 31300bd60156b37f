-- The form whose error is that of the list, of those that have been asked.
use Rattle.lexical_forms.proofs.Common.{FormList, arith, IsLow, IsRefusedAt, IsSomeAnd, Leads, NoForm, Reaches, refl, slice_get, subst, sym, ◌+◌}
use Rattle.lexical_forms.proofs.FormLemmas.{at_index, leads_all, leads_first, left_out}
use Rattle.lexical_forms.proofs.list.Forms.furthest.Goals as goal
use Rattle.lexical_forms.proofs.list.Forms.furthest.Goals.{then-not-is_behind, else-not-is_behind}

pub reached-furthest-requires : goal.reached-furthest-requires
reached-furthest-requires c =
    let forms = c.self.inside.forms.now in let text = c.args.text.now in let d = c.index-self-0.result in
    subst (λ (l : FormList). IsSomeAnd (slice_get l.forms 0) (IsRefusedAt text c.stop-first.result)) c.self.view_is
    (at_index (IsRefusedAt text c.stop-first.result) forms forms d 0 refl c.self.invariant.0
    (c.stop-first.ensures.stop (subst (λ (l : FormList). NoForm l.forms text) (sym c.self.view_is) c.requires 0 d c.self.invariant.0)))

pub loop-form-init : goal.loop-form-init
loop-form-init c =
    let forms = c.self.inside.forms.now in let text = c.args.text.now in
    leads_first forms text 0 0 c.reached-furthest.result c.reached-furthest.ensures.form
    (subst (λ (l : FormList). IsSomeAnd (slice_get l.forms 0) (IsRefusedAt text c.reached-furthest.result.stop)) (sym c.self.view_is)
    c.reached-furthest.ensures.here)
    (subst (λ (l : FormList). IsSomeAnd (slice_get l.forms 0) (λ g. Reaches text g c.reached-furthest.result.reach)) (sym c.self.view_is)
    c.reached-furthest.ensures.reach) (λ k d below. absurd (omega (arith, below)))

pub further-furthest-requires : goal.further-furthest-requires
further-furthest-requires c =
    let forms = c.self.inside.forms.now in
    let text = c.args.text.now in
    let i = c.loop-form.form in
    let d = c.index-self-form.result in
    subst (λ (l : FormList). IsSomeAnd (slice_get l.forms i) (IsRefusedAt text c.stop-stop.result)) c.self.view_is
    (at_index (IsRefusedAt text c.stop-stop.result) forms forms d i refl c.loop-form-test.true
    (c.stop-stop.ensures.stop (subst (λ (l : FormList). NoForm l.forms text) (sym c.self.view_is) c.requires i d c.loop-form-test.true)))

pub loop-form-preserved : goal.loop-form-preserved
loop-form-preserved c =
    let forms = c.self.inside.forms.now in
    let text = c.args.text.now in
    let i = c.loop-form.form in
    let best = c.loop-form.furthest in
    elim c.if-not-is_behind.branch [
      | then-not-is_behind w ↦ subst (Leads forms text (i + 1) 0) (sym w.furthest-is)
          (subst (λ (l : FormList). Leads l.forms text (i + 1) 0 w.further-furthest.result) (sym c.self.view_is)
          (w.further-furthest.ensures 0 (subst (λ (l : FormList). Leads l.forms text i 0 best) c.self.view_is c.loop-form.invariant)))
      | else-not-is_behind w ↦ subst (Leads forms text (i + 1) 0) (sym w.furthest-is) (left_out forms text i 0 best c.loop-form.invariant
          (at_index (IsLow text best.reach) forms forms c.index-self-form.result i refl c.loop-form-test.true
          (c.is_behind.ensures.low w.if-not-is_behind.false)))
    ]

pub returns : goal.returns
returns c = rw (← c.self.view_is) (leads_all c.self.inside.forms.now c.args.text.now c.loop-form.form c.loop-form-test.false c.loop-form.furthest
    c.loop-form.invariant)
