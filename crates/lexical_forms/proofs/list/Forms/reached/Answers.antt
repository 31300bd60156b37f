-- The form at the index.
use Rattle.lexical_forms.proofs.Common.{IsRefusedAt, IsSomeAnd, Reaches, slice_get, subst, sym}
use Rattle.lexical_forms.proofs.FormLemmas.{at_index, form_at, inside_of}
use Rattle.lexical_forms.proofs.list.Forms.reached.Goals as goal

pub reached-requires : goal.reached-requires
reached-requires c = subst (IsRefusedAt c.args.text.now c.args.stop) (sym c.index-as_slice-form.is)
    (form_at (IsRefusedAt c.args.text.now c.args.stop) c.args.self.now.forms c.as_slice.result.now c.index-as_slice-form.result c.args.form
    c.as_slice.ensures.list c.requires).1

pub returns-clause-here : goal.returns-clause-here
returns-clause-here c =
    subst (λ stop. IsSomeAnd (slice_get c.args.self.now.forms c.args.form) (IsRefusedAt c.args.text.now stop)) (sym c.reached.ensures.stop) c.requires

pub returns-clause-reach : goal.returns-clause-reach
returns-clause-reach c =
    let forms = c.args.self.now.forms in
    at_index (λ g. Reaches c.args.text.now g c.reached.result.reach) forms c.as_slice.result.now c.index-as_slice-form.result c.args.form
    c.as_slice.ensures.list (rw c.as_slice.ensures.list (inside_of _ forms c.args.form c.requires))
    (subst (λ g. Reaches c.args.text.now g c.reached.result.reach) c.index-as_slice-form.is c.reached.ensures.reach)
