-- The literal behind the opening.
use Rattle.lexical_forms.proofs.Common.{Grammar, Read, Reads, ReadsIn, ap, cuts_of, measured_cut, notation_of, refl, subst, sym, whole_read, ◌+◌, ◌∙◌}
use Rattle.lexical_literal.specs.Additions.Literal.{IsCut}
use Rattle.lexical_forms.proofs.BehindLemmas.{refused_inside}
use Rattle.lexical_forms.proofs.form.Form.read.Goals as goal

pub literal-literal-requires-clause-cut : goal.literal-literal-requires-clause-cut
literal-literal-requires-clause-cut c = subst (λ (g : Grammar). IsCut (notation_of g) c.args.inside.now (cuts_of c.begin-begun.result.counts))
    (sym c.grammar-grammar.ensures.value)
    (measured_cut _ c.args.inside.now c.begin-begun.result.counts (c.covers.ensures.measured c.if-covers.true))

pub returns-then-covers-clause-some : goal.returns-then-covers-clause-some
returns-then-covers-clause-some c =
    let made = c.literal-literal.ensures in
    let is = whole_read _ c.args.inside.now c.begin-begun.result.counts (c.covers.ensures.measured c.if-covers.true) _ refl in (
      (
        c.behind.ensures.format ∙ ap (λ (r : Read). r.format) made ∙ ap (λ (g : Grammar). g.word) c.grammar-grammar.ensures.value,
        c.behind.ensures.kind ∙ ap (λ (r : Read). r.kind) made,
        subst (λ l. ReadsIn c.args.self.now l c.args._text.now) (sym (c.behind.ensures.literal ∙ ap (λ (r : Read). r.literal) made))
            (c.requires.opened, subst (Reads _ _) c.requires.is is.1),
      ),
      c.behind.ensures.opened,
    )

pub summed-literal-requires : goal.summed-literal-requires
summed-literal-requires c = measured_cut _ c.args.inside.now c.in-Ok.counts c.in-Ok.ensures.some

pub returns-in-Ok-clause-some : goal.returns-in-Ok-clause-some
returns-in-Ok-clause-some c =
    let read = c.summed-literal.result in
    let is = whole_read _ c.args.inside.now c.in-Ok.counts c.in-Ok.ensures.some read c.summed-literal.ensures in (
      (
        c.behind-in-Ok.ensures.format ∙ c.with_kind.ensures.format ∙ is.0,
        c.behind-in-Ok.ensures.kind ∙ c.with_kind.ensures.kind,
        subst (λ l. ReadsIn c.args.self.now l c.args._text.now) (sym (c.behind-in-Ok.ensures.literal ∙ c.with_kind.ensures.literal))
            (c.requires.opened, subst (Reads _ read.literal) c.requires.is is.1),
      ),
      c.behind-in-Ok.ensures.opened,
    )

pub returns-in-Err-clause-stop : goal.returns-in-Err-clause-stop
returns-in-Err-clause-stop c = refused_inside c.args.self.now c.args._text.now c.args.inside.now c.in-Err.stop c.at.result c.requires
    c.in-Err.ensures.stop (c.in-Err.ensures.none refl) (c.at.ensures ∙ ap (λ k. record c.in-Err.stop { size = k + c.in-Err.stop.size }) c.size.ensures)
