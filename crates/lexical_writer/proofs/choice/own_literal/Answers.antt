-- The only form of the list reads the text.
use Rattle.lexical_writer.proofs.Common.{Form, Grammar, IsSomeAnd, List, Reads, ReadsForm, [], ap, arith, notation_of, refl, slice_get, subst, sym, ℕ, ◌∙◌, ◌∷◌}
use Rattle.lexical_writer.proofs.Common.{◌≡◌}
use Rattle.lexical_forms.specs.FormList.{FormList}
use Rattle.lexical_forms.proofs.BehindLemmas.{plain_of}
use Rattle.lexical_writer.proofs.ChoiceLemmas.{none_at}
use Rattle.lexical_writer.proofs.choice.own_literal.Goals as goal

only : (P : Form → Type 0) (form : Form) (index : ℕ) → IsSomeAnd (slice_get (form ∷ []) index) P → P form
only P form index here = grind arith

pub returns-in-Some-clause-some : goal.returns-in-Some-clause-some
returns-in-Some-clause-some c =
    let index = c.in-Some.field-0-0 in
    let read = c.in-Some.literal in
    let one : c.in_ok-list.list.forms ≡ c.new.result ∷ [] = ap (λ (list : FormList). list.forms) c.in_ok-list.ensures.1 in
    let by = only (ReadsForm c.args.text.now read) c.new.result index
    (subst (λ (forms : List Form). IsSomeAnd (slice_get forms index) (ReadsForm c.args.text.now read)) one c.in-Some.ensures.some.reads) in (
      by.1 ∙ c.new.ensures.kind,
      by.0 ∙ ap (λ (g : Grammar). g.word) c.new.ensures.syntax,
      subst (λ (g : Grammar). Reads (notation_of g) read.literal c.args.text.now) c.new.ensures.syntax
          (plain_of c.new.result c.args.text.now c.new.ensures.opening read.literal by.2),
    )

pub returns-in-None-clause-none : goal.returns-in-None-clause-none
returns-in-None-clause-none c equal l reads =
    let one : c.in_ok-list.list.forms ≡ c.new.result ∷ [] = ap (λ (list : FormList). list.forms) c.in_ok-list.ensures.1 in
    none_at c.in_ok-list.list.forms c.new.result c.args.text.now 0 l (ap (λ forms. slice_get forms 0) one) c.new.ensures.opening
    (subst (λ (g : Grammar). Reads (notation_of g) l c.args.text.now) (sym c.new.ensures.syntax) reads) (c.in-None.ensures.none refl)
