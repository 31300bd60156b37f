-- The parts that were cut are those of the literal.
use Rattle.lexical_literal.proofs.Common.{Grammar, IsCut, cut, cuts_of, literal_of, notation_of, raw, subst, sym}
use Rattle.lexical_literal.proofs.MantissaLemmas.{made_sums}
use Rattle.lexical_literal.proofs.syntax.Syntax.summed.Goals as goal

pub literal-requires-clause-cut : goal.literal-requires-clause-cut
literal-requires-clause-cut c = subst (λ (g : Grammar). IsCut (notation_of g) c.args.text.now (cuts_of c.args.counts)) (sym c.grammar-grammar.ensures.value)
    c.requires

pub literal-requires-clause-sums : goal.literal-requires-clause-sums
literal-requires-clause-sums c =
    let same = c.parts_of.ensures (cut c.args.text.now (cuts_of c.args.counts)) c.requires.reads.whole c.requires.lengths in
    let sums = c.sums_of-sums.ensures in
    made_sums (raw c.grammar-grammar.result.word) c.radix_of.result c.radix_of-2.result (literal_of c.parts_of.result)
    (cut c.args.text.now (cuts_of c.args.counts)) c.sums_of-sums.result c.radix_of.ensures c.radix_of-2.ensures same
    sums.mantissa sums.places sums.exponent
