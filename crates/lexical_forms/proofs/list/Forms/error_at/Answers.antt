-- The error of the form at the index.
use Rattle.lexical_forms.proofs.Common.{IsErrorOfForm, IsRefusedAt, subst, sym}
use Rattle.lexical_forms.proofs.FormLemmas.{at_index, error_is, form_at, inside_of}
use Rattle.lexical_forms.proofs.list.Forms.error_at.Goals as goal

pub form_error-requires : goal.form_error-requires
form_error-requires c = subst (IsRefusedAt c.args.text.now c.args.furthest.stop) (sym c.index-as_slice-form.is)
    (form_at (IsRefusedAt c.args.text.now c.args.furthest.stop) c.args.self.now.forms c.as_slice.result.now
    c.index-as_slice-form.result c.args.furthest.form c.as_slice.ensures.list c.requires.here).1

pub returns : goal.returns
returns c =
    let forms = c.args.self.now.forms in
    let best = c.args.furthest in
    error_is forms c.args.text.now best c.requires c.form_error.result c.form_error.ensures.form
    (at_index (IsErrorOfForm c.args.text.now c.form_error.result) forms c.as_slice.result.now c.index-as_slice-form.result best.form
    c.as_slice.ensures.list (rw c.as_slice.ensures.list (inside_of _ forms best.form c.requires.here))
    (subst (IsErrorOfForm c.args.text.now c.form_error.result) c.index-as_slice-form.is c.form_error.ensures.error))
