-- The first form reads the text as the integer.
use Rattle.lexical_writer.proofs.Common.{Form, Grammar, List, Read, Reads, Some, ap, get_or, integer_literal, laid_out, length, notation_of, number_of_size}
use Rattle.lexical_writer.proofs.Common.{refl, slice_get, slice_get_read, subst, sym, text_of, is_own, with_sign, ◌<◌, ◌∙◌, ◌≡◌}
use Rattle.lexical_forms.proofs.BehindLemmas.{no_size}
use Rattle.lexical_writer.proofs.ChoiceLemmas.{first_reads}
use Rattle.lexical_writer.proofs.choice.lay_out_first.Goals as goal

-- The form is the first of the list.
first : (list forms : List Form) (form : Form) → list ≡ forms → 0 < length forms → form ≡ get_or list 0 form → slice_get forms 0 ≡ Some form
first list forms form same some is = rw (← same) (slice_get_read list (length list) 0 form refl (rw same some) is)

pub returns-clause-back : goal.returns-clause-back
returns-clause-back c =
    let form = c.index-as_slice-0.result in
    let l = integer_literal c.in-Ok.integer in
    let written = c.in-Ok.ensures.written in
    let here = first _ _ form c.as_slice.ensures.list c.as_slice.ensures.some c.index-as_slice-0.is in
    let none = no_size _ c.has_opening.result c.has_opening.ensures c.if-has_opening.false in
    let own : Read = record { format = form.syntax.word; literal = l; kind = form.kind; opened = 0 } in
    let read = first_reads c.args.forms.now.forms form (text_of l) l 0 here refl none
    (subst (λ (g : Grammar). Reads (notation_of g) l (text_of l)) c.syntax-syntax.ensures written.0) in (
      own,
      0,
      read,
      c.is_plain.ensures.plain c.if-not-is_plain.false own (sym c.kind.ensures) (ap (λ (g : Grammar). g.word) (sym c.syntax-syntax.ensures))
          (sym c.is_float.ensures ∙ c.if-is_float.false)
          (c.in-Ok.ensures.parts, λ i. with_sign (sym written.1.sign i) (sym written.1.integer i)),
    )

pub returns-clause-first : goal.returns-clause-first
returns-clause-first c = (
  c.index-as_slice-0.result,
  first _ _ _ c.as_slice.ensures.list c.as_slice.ensures.some c.index-as_slice-0.is,
  sym c.is_only_read.ensures ∙ c.if-is_only_read.false,
  sym (λ i. is_own (c.own.ensures i) (c.syntax-syntax.ensures i)) ∙ sym c.is_own.ensures ∙ c.if-not-is_own.false,
  c.in-Ok.ensures.parts ∙ ap (λ g. laid_out g c.args.style (number_of_size c.args.number.now.negative c.args.number.now.size)) c.syntax-syntax.ensures,
)
