-- No byte that ends a number is one of those of the grammar, of the opening or of words.
use Rattle.lexical_forms.proofs.Common.{Bool, List, ap, false, false≢true, list_any, not, refl, subst, sym, true, ℕ, ◌∙◌, ◌≡◌}
use Rattle.lexical_forms.specs.Additions.Forms.{is_end}
use Rattle.lexical_forms.proofs.EndLemmas.{none_among, none_in, plays_none}
use Rattle.lexical_forms.proofs.exclude.lets_end.Goals as goal
use Rattle.lexical_forms.proofs.exclude.lets_end.Goals.{then-ends, else-ends, then-is_end, else-is_end, then-has_end, else-has_end}

off : (b : Bool) → not b ≡ true → b ≡ false
off true on = absurd (false≢true on)
off false on = refl

pub returns : goal.returns
returns c = λ is. elim c.if-has_end.branch [
  | then-has_end w ↦ absurd (false≢true (sym (ap not (w.result-is ∙ w.if-has_end.true)) ∙ is))
  | else-has_end w ↦ (elim c.if-is_end.branch [
    | then-is_end v ↦ absurd (false≢true (sym w.if-has_end.false ∙ v.value-is ∙ v.if-is_end.true))
    | else-is_end v ↦ (elim c.if-ends.branch [
      | then-ends u ↦ absurd (false≢true (sym v.if-is_end.false ∙ u.value-is ∙ u.if-ends.true))
      | else-ends u ↦ (λ byte on. record {
        role = plays_none c.it.inside c.args.form.now.syntax c.it.invariant (c.it.view_is ∙ c.grammar-it.ensures.value) c.grammar-it.ensures.syntax
            (sym c.any_end-ends.ensures ∙ u.if-ends.false) (sym u.is_end.ensures ∙ sym u.value-is ∙ v.if-is_end.false) byte on;
        opening = none_in _ c.args.form.now.opening.bytes byte (sym v.has_end.ensures ∙ sym v.value-is ∙ w.if-has_end.false) on;
        word = none_among _ byte (subst (λ (bytes : List ℕ). list_any is_end bytes ≡ false) w.more_of.ensures
            (sym w.have_end.ensures ∙ sym w.result-is ∙ off _ is)) on;
      })
    ])
  ])
]
