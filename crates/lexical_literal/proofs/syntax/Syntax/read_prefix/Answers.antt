-- A text of which no front is a literal is none.
use Rattle.lexical_literal.proofs.Common.{Read, ap, false≢true, is_some}
use Rattle.lexical_literal.proofs.PieceLemmas.{front_cut, front_read, none_whole}
use Rattle.lexical_literal.proofs.syntax.Syntax.read_prefix.Goals as goal

pub refuse-requires-clause-refused : goal.refuse-requires-clause-refused
refuse-requires-clause-refused c = none_whole _ _ (c.front-found.ensures.none (ap is_some c.in-None.is))

pub summed-literal-requires : goal.summed-literal-requires
summed-literal-requires c = front_cut c.args.self.now c.args.text.now c.front_of.result.now c.in-Some.found.size c.in-Some.found.counts c.front_of.ensures
    (c.front-found.ensures.longest c.in-Some.found c.in-Some.is)

pub front_of-requires : goal.front_of-requires
front_of-requires c = (c.front-found.ensures.longest c.in-Some.found c.in-Some.is).reads.within

pub returns-in-Some : goal.returns-in-Some
returns-in-Some c = record {
  found = front_read c.args.self.now c.args.text.now c.front_of.result.now c.in-Some.found.size c.in-Some.found.counts c.front_of.ensures
      (c.front-found.ensures.longest c.in-Some.found c.in-Some.is) c.summed-literal.result c.summed-literal.ensures;
  kind = ap (λ (r : Read). r.kind) c.summed-literal.ensures;
  opened = ap (λ (r : Read). r.opened) c.summed-literal.ensures;
  none = λ err. absurd (false≢true err);
  error = tt;
}
