use Rattle.lexical_flags.specs.Literals.{on_literals}
use Rattle.lexical_flags.proofs.laws.examples.options_examples.Goals as goal

pub returns-clause-some : goal.returns-clause-some
unfolding on_literals
returns-clause-some c = record { exponent_byte = 0x65; point_byte = 0x2E; one_role = search }
