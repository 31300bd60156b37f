use Rattle.lexical_forms.proofs.Common.{length}
use Rattle.lexical_forms.proofs.suffix.+has_byte.Given as goal

abbrev pub decreases-has_byte : goal.decreases-has_byte
decreases-has_byte l = length l.bytes.now
