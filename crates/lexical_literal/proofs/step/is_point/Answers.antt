-- The decimal point is a field, which is 0 without options.
use Rattle.lexical_literal.proofs.Common.{arith, nat_tests}
use Rattle.lexical_literal.proofs.FieldLemmas.{point_is}
use Rattle.lexical_literal.proofs.step.is_point.Goals as goal

pub returns-then-byte-grammar : goal.returns-then-byte-grammar
returns-then-byte-grammar c = let is = point_is c.grammar.inside c.args.grammar c.grammar.invariant c.grammar.view_is c.args.byte in grind (arith, nat_tests)

pub returns-else-byte-grammar : goal.returns-else-byte-grammar
returns-else-byte-grammar c = let is = point_is c.grammar.inside c.args.grammar c.grammar.invariant c.grammar.view_is c.args.byte in grind (arith, nat_tests)
