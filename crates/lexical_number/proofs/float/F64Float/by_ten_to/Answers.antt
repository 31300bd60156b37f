-- Both numbers are floats.
use Rattle.lexical_number.proofs.Common.{IsTenTo-get_or, arith}
use Rattle.std.specs.Float.{binary64}
use lib.Ieee.{of_bits}
use Rattle.lexical_number.specs.declared.float.TheConstants.{TENS_F64}
use Rattle.lexical_number.proofs.TenLemmas.{divided, multiplied}
use Rattle.lexical_number.proofs.float.F64Float.by_ten_to.Goals as goal

pub returns-then-over : goal.returns-then-over
unfolding of_bits
returns-then-over c = divided binary64 c.args.scale _ c.if-over.true c.requires (omega arith) (IsTenTo-get_or TENS_F64 c.args.scale _ tt (omega arith))

pub returns-else-over : goal.returns-else-over
unfolding of_bits
returns-else-over c = multiplied binary64 c.args.scale _ c.if-over.false c.requires (omega arith) (IsTenTo-get_or TENS_F64 c.args.scale _ tt (omega arith))
