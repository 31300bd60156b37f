-- The bits are those of the value.
use Rattle.lexical_number.proofs.Common.{binary64, of_bits-to_bits, passes}
use Rattle.lexical_number.proofs.float.F64Float.bits.Goals as goal

pub returns-else-is_nan-clause-value : goal.returns-else-is_nan-clause-value
returns-else-is_nan-clause-value c = of_bits-to_bits binary64 c.args.self (passes _ c.well_formed.0.1)
