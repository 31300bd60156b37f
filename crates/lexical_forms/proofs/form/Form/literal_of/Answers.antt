-- The parts and the sums are those that are given.
use Rattle.lexical_forms.proofs.Common.{AreSums, Grammar, cut, cuts_of, notation_of, raw, subst, sym}
use Rattle.lexical_literal.specs.Additions.Literal.{IsCut}
use Rattle.lexical_forms.proofs.form.Form.literal_of.Goals as goal

pub literal-requires-clause-cut : goal.literal-requires-clause-cut
literal-requires-clause-cut c = subst (λ (g : Grammar). IsCut (notation_of g) c.args.text.now (cuts_of c.args.counts)) (sym c.grammar.ensures.value)
    c.requires.cut

pub literal-requires-clause-sums : goal.literal-requires-clause-sums
literal-requires-clause-sums c =
    subst (λ (g : Grammar). AreSums (raw g.word) (cut c.args.text.now (cuts_of c.args.counts)) c.in-Some.sums) (sym c.grammar.ensures.value)
    (c.requires.sums c.in-Some.sums c.in-Some.is)
