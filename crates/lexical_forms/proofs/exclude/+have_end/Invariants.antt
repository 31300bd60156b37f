use Rattle.lexical_forms.proofs.Common.{length}
use Rattle.lexical_forms.proofs.exclude.+have_end.Given as goal

abbrev pub decreases-have_end : goal.decreases-have_end
decreases-have_end l = length l.bytes.now
