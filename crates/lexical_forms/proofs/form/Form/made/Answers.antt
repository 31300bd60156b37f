-- What is behind the opening of the front has the parts that were counted.
use Rattle.std.specs.Option.{ForSome}
use Rattle.lexical_forms.proofs.Common.{AreSums, cut, cuts_of, raw}
use Rattle.lexical_forms.proofs.Common.{IsMeasured, Reads, ReadsIn, ap, arith, drop, length, measured_cut, notation_of, subst, sym, take, whole_read, ◌∙◌, ◌≤◌}
use Rattle.lexical_forms.proofs.form.Form.made.Goals as goal

pub split_at-requires-4 : goal.split_at-requires-4
split_at-requires-4 c = let g = c.args.self.now in let within = c.requires.counted.opened.within in
    subst (λ t. c.size.result ≤ length t) (sym c.split_at.ensures.front) (omega (arith, c.size.ensures, within))

pub literal_of-literal-requires-clause-cut : goal.literal_of-literal-requires-clause-cut
literal_of-literal-requires-clause-cut c =
    let g = c.args.self.now in
    let inside = c.split_at-4.ensures.back ∙ ap (λ k. drop k c.split_at.result.0.now) c.size.ensures
    ∙ ap (drop g.opening.size) c.split_at.ensures.front in
    measured_cut _ c.split_at-4.result.1.now c.args.candidate.counts
    (subst (λ t. IsMeasured (notation_of g.syntax) t c.args.candidate.counts) (sym inside) c.requires.counted.measured)

pub literal_of-literal-requires-clause-sums : goal.literal_of-literal-requires-clause-sums
literal_of-literal-requires-clause-sums c =
    let g = c.args.self.now in
    let inside = c.split_at-4.ensures.back ∙ ap (λ k. drop k c.split_at.result.0.now) c.size.ensures
    ∙ ap (drop g.opening.size) c.split_at.ensures.front in
    subst (λ t. ForSome c.args.candidate.sums (AreSums (raw g.syntax.word) (cut t (cuts_of c.args.candidate.counts)))) (sym inside) c.requires.sums

pub returns-clause-literal : goal.returns-clause-literal
returns-clause-literal c =
    let g = c.args.self.now in let text = take c.args.candidate.size c.args.text.now in let counted = c.requires.counted in
    let inside = c.split_at-4.ensures.back ∙ ap (λ k. drop k c.split_at.result.0.now) c.size.ensures
    ∙ ap (drop g.opening.size) c.split_at.ensures.front in
    let read = c.literal_of-literal.result in
    let is = whole_read _ c.split_at-4.result.1.now c.args.candidate.counts
    (subst (λ t. IsMeasured (notation_of g.syntax) t c.args.candidate.counts) (sym inside) counted.measured) read c.literal_of-literal.ensures in (
      c.behind.ensures.format ∙ c.with_kind.ensures.format ∙ is.0,
      subst (λ l. ReadsIn g l text) (sym (c.behind.ensures.literal ∙ c.with_kind.ensures.literal))
          (counted.opened, subst (Reads (notation_of g.syntax) read.literal) inside is.1),
    )
