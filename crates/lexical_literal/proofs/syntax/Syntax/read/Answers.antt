-- A text with a byte that is refused is no literal.
use Rattle.lexical_literal.proofs.Common.{Err, Grammar, IsCut, IsErrAnd, IsRead, IsRefusal, List, NoLiteral, Ok}
use Rattle.lexical_literal.proofs.Common.{Read, Result, arith, cuts_of, notation_of, subst, sym, ℕ, ◌≡◌}
use Rattle.lexical_literal.specs.Cause.{Explained}
use Rattle.lexical_literal.proofs.StoppedLemmas.{none_whole}
use Rattle.lexical_literal.proofs.PieceLemmas.{is_read, measured_cut, read_as}
use Rattle.lexical_literal.proofs.syntax.Syntax.read.Goals as goal

refused : (g : Grammar) (text : List ℕ) (r : Result Read Explained) → NoLiteral (notation_of g) text
    → IsErrAnd r (λ error. IsRefusal (notation_of g) text error.refusal) → IsRead g text r
refused g text (Ok _) none is = absurd is
refused g text (Err _) none is = record { found = tt; kind = tt; opened = tt; only = λ l reads. absurd (none l reads); error = is }

pub refuse-requires-clause-refused : goal.refuse-requires-clause-refused
refuse-requires-clause-refused c =
    let stop = c.begin-begun.ensures.found.refused c.if-begun.true in none_whole _ _ _ stop.1 (λ all. absurd (omega (arith, all, stop.0)))

pub returns-then-begun : goal.returns-then-begun
returns-then-begun c =
    let stop = c.begin-begun.ensures.found.refused c.if-begun.true in
    refused c.args.self.now c.args.text.now c.refuse.result (none_whole _ _ _ stop.1 (λ all. absurd (omega (arith, all, stop.0))))
    c.refuse.ensures

pub literal-requires-clause-cut : goal.literal-requires-clause-cut
literal-requires-clause-cut c = subst (λ (g : Grammar). IsCut (notation_of g) c.args.text.now (cuts_of c.begin-begun.result.counts))
    (sym c.grammar.ensures.value)
    (measured_cut c.args.self.now c.args.text.now c.begin-begun.result.counts (c.covers.ensures.measured c.if-covers.true))

pub returns-then-covers : goal.returns-then-covers
returns-then-covers c = is_read c.args.self.now c.args.text.now c.begin-begun.result.counts (c.covers.ensures.measured c.if-covers.true)
    c.literal.result (subst (λ (g : Grammar). c.literal.result ≡ read_as g c.args.text.now c.begin-begun.result.counts) c.grammar.ensures.value
    c.literal.ensures)
