use Rattle.lexical_forms.proofs.Common.{length}
use Rattle.lexical_forms.proofs.token.+have_byte.Given as goal

abbrev pub decreases-have_byte : goal.decreases-have_byte
decreases-have_byte l = length l.forms.now
