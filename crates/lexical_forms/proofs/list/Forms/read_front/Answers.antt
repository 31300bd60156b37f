-- The front has the parts that were counted.
use Rattle.lexical_forms.proofs.Common.{Form, IsFrontIn, IsSomeAnd, ReadsForm, ReadsIn, Some, ap, arith, behind, front_cut, front_read}
use Rattle.lexical_forms.proofs.Common.{List, drop, length, length-take-le, ℕ, slice_get, subst, sym, take, ◌-◌, ◌∙◌, ◌≡◌}
use Rattle.lexical_forms.proofs.FormLemmas.{form_at}
use Rattle.lexical_forms.proofs.BehindLemmas.{front_in, inner_is, read_in}
use Rattle.lexical_forms.proofs.list.Forms.read_front.Goals as goal

-- What is behind as many bytes as the opening has.
inside_of_front : (g : Form) (front inside : List ℕ) (size : ℕ) → inside ≡ drop size front → size ≡ g.opening.size → inside ≡ drop g.opening.size front
inside_of_front g front inside size back same = back ∙ ap (λ k. drop k front) same

pub split_at-requires-in-Ok : goal.split_at-requires-in-Ok
split_at-requires-in-Ok c =
    let found = c.in-Ok.found in let text = c.args.text.now in let g = c.index-as_slice-form.result in
    let is = subst (λ (g : Form). IsFrontIn text found g) (sym c.index-as_slice-form.is) (form_at (IsFrontIn text found) c.args.self.now.forms
    c.as_slice.result.now c.index-as_slice-form.result c.in-Ok.form c.as_slice.ensures.list c.in-Ok.ensures.found).1 in
    let size = ap length c.split_at.ensures.front ∙ length-take-le found.size text (front_in g text found is).within in
    let past = is.past in omega (arith, size, past, c.size.ensures)

pub summed-literal-requires : goal.summed-literal-requires
summed-literal-requires c =
    let found = c.in-Ok.found in let text = c.args.text.now in let g = c.index-as_slice-form.result in
    let is = subst (λ (g : Form). IsFrontIn text found g) (sym c.index-as_slice-form.is) (form_at (IsFrontIn text found) c.args.self.now.forms
    c.as_slice.result.now c.index-as_slice-form.result c.in-Ok.form c.as_slice.ensures.list c.in-Ok.ensures.found).1 in
    front_cut g.syntax (behind g text) c.split_at-in-Ok.result.1.now (found.size - g.opening.size) found.counts
    (inner_is g text found is c.split_at.result.0.now c.split_at-in-Ok.result.1.now c.split_at.ensures.front
    (inside_of_front g _ _ _ c.split_at-in-Ok.ensures.back c.size.ensures)) is.front

pub returns-in-Ok : goal.returns-in-Ok
returns-in-Ok c =
    let found = c.in-Ok.found in let text = c.args.text.now in let g = c.index-as_slice-form.result in let forms = c.args.self.now.forms in
    let form = subst (λ (g : Form). (slice_get forms c.in-Ok.form ≡ Some g) × IsFrontIn text found g) (sym c.index-as_slice-form.is)
    (form_at (IsFrontIn text found) forms c.as_slice.result.now g c.in-Ok.form c.as_slice.ensures.list c.in-Ok.ensures.found) in
    let read = c.summed-literal.result in
    let is = front_read g.syntax (behind g text) c.split_at-in-Ok.result.1.now (found.size - g.opening.size) found.counts
    (inner_is g text found form.1 c.split_at.result.0.now c.split_at-in-Ok.result.1.now c.split_at.ensures.front
    (inside_of_front g _ _ _ c.split_at-in-Ok.ensures.back c.size.ensures)) form.1.front read
    c.summed-literal.ensures in
    let own = c.behind-literal.result in (
      found.size,
      c.in-Ok.ensures.longest,
      subst (λ o. IsSomeAnd o (λ (g : Form). ReadsForm (take found.size text) own g × (own.opened ≡ g.opening.size))) (sym form.0) (
        (
          c.behind-literal.ensures.format ∙ c.with_kind.ensures.format ∙ is.0,
          c.behind-literal.ensures.kind ∙ c.with_kind.ensures.kind,
          subst (λ l. ReadsIn g l (take found.size text)) (sym (c.behind-literal.ensures.literal ∙ c.with_kind.ensures.literal))
              (read_in g text found read.literal form.1 is.1).reads,
        ),
        c.behind-literal.ensures.opened,
      ),
      c.split_at.ensures.back,
    )
