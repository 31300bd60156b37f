-- The longest front that is a literal, and the lengths of its parts.
use Rattle.lexical_literal.proofs.Common.{IsLongest, notation_of, subst}
use Rattle.lexical_literal.proofs.StoppedLemmas.{found_there, front_literal, fronted, no_front}
use Rattle.lexical_literal.proofs.syntax.Syntax.front.Goals as goal

pub returns-then-stop-at : goal.returns-then-stop-at
returns-then-stop-at c = fronted _ _ _ _ c.stop-stop.ensures
    (found_there _ _ c.begin-begun.result c.begin-begun.ensures.found c.if-complete.true c.stop-stop.result c.stop-stop.ensures c.if-stop-at.true)

pub returns-in-None : goal.returns-in-None
returns-in-None c = record {
  reached = c.stop-stop.ensures;
  longest = λ found is. front_literal _ _ found (subst (IsLongest _ _ _) is c.longest.ensures);
  none = no_front (notation_of c.args.self.now) _ _ c.longest.ensures;
}
