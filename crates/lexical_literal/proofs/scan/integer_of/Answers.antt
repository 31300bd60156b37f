-- The literal is cut where its parts end.
use Rattle.lexical_literal.proofs.Common.{ap, cuts_of, take}
use Rattle.lexical_literal.specs.Literal.{Literal}
use Rattle.lexical_literal.proofs.PieceLemmas.{cut_is}
use Rattle.lexical_literal.proofs.scan.integer_of.Goals as goal

pub returns : goal.returns
returns c = λ l whole has.
    let same = ap (λ (l : Literal). l.integer) (cut_is (take c.args.begun.at.size c.args.text.now) (cuts_of c.args.begun.counts) l whole has) in
    let front = c.split_at.ensures.front in let behind = c.split_at-2.ensures.back in let run = c.split_at-3.ensures.front in cc
