-- One condition is added to none.
use Rattle.lexical_literal.proofs.Common.{arith, is_same, nat_tests, number_of}
use Rattle.lexical_literal.proofs.NumberLemmas.{is_kept}
use Rattle.lexical_literal.proofs.syntax.Conditions.only.Goals as goal

pub returns : goal.returns
returns c = is_kept (is_same c.args.condition) (number_of c.args.self) c.with.result c.with.ensures.all
    (λ d. let each = c.with.ensures.each d in let own = c.number.ensures in grind (arith, nat_tests))
