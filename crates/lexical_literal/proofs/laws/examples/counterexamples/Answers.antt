use Rattle.lexical_literal.proofs.Common.{false≢true, sym}
use Rattle.lexical_util.specs.Layout as layout
use Rattle.lexical_literal.proofs.laws.examples.counterexamples.Goals as goal

pub returns-clause-flags : goal.returns-clause-flags
returns-clause-flags c same = false≢true (sym (same.flags layout.required_integer_digits))
