-- A byte that plays no role where reading has come is refused.
use Rattle.lexical_literal.proofs.Common.{get_or, steps_of}
use Rattle.lexical_literal.proofs.PassedLemmas.{passed}
use Rattle.lexical_literal.proofs.scan.refuses.Goals as goal

pub returns-then-at-text : goal.returns-then-at-text
returns-then-at-text c holds =
    let is = c.refuses_next.ensures in let inside = c.if-at-text.true in (
      inside,
      passed (steps_of c.args.grammar) c.args.at.read (get_or c.args.text.now c.args.at.size 0) (is.digit holds) (is.separator holds) (is.fresh holds) (is.prefix holds)
          (c.requires.point inside) (c.requires.exponent inside) (c.requires.suffix inside),
    )
