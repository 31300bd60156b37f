use Rattle.std.proofs.Common.{arith}
use Rattle.std.proofs.lemmas.Option.{same_Some}
use Rattle.lexical_flags.specs.Layout as layout
use Rattle.lexical_util.proofs.laws.examples.write_examples.Goals as goal

pub returns-clause-other_last : goal.returns-clause-other_last
returns-clause-other_last c same = absurd (omega (arith, same_Some 16 8 (same.same_bytes layout.mantissa_radix)))
