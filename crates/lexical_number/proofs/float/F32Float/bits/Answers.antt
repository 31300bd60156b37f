-- The bits are those of the value.
use Rattle.lexical_number.proofs.Common.{arith, binary32, of_bits-to_bits, passes, to_bits-lt}
use Rattle.lexical_number.proofs.float.F32Float.bits.Goals as goal

pub overflow_cast-result : goal.overflow_cast-result
overflow_cast-result c = record { fits = omega (arith, to_bits-lt binary32 c.args.self (passes _ c.well_formed.0.1)) }

pub returns-else-is_nan-clause-value : goal.returns-else-is_nan-clause-value
returns-else-is_nan-clause-value c = of_bits-to_bits binary32 c.args.self (passes _ c.well_formed.0.1)
