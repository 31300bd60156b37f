use Rattle.lexical_forms.proofs.Common.{length}
use Rattle.lexical_forms.proofs.suffix.+begins.Given as goal

abbrev pub decreases-begins : goal.decreases-begins
decreases-begins l = length l.word.now
