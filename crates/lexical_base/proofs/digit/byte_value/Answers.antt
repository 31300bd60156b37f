use Rattle.std.proofs.Common.{slice_index_or, refl}
use Rattle.lexical_base.specs.Digits.{byte_value}
use Rattle.lexical_base.specs.declared.digit.TheConstants.{VALUES}
use Rattle.lexical_base.proofs.ValueLemmas.{same_at}
use Rattle.lexical_base.proofs.digit.byte_value.Goals as goal

pub returns : goal.returns
unfolding byte_value
returns c = same_at (λ b. slice_index_or VALUES b 0) byte_value 256 c.args.c refl c.ranges.c.fits
