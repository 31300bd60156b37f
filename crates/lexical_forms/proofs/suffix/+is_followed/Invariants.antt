use Rattle.lexical_forms.proofs.Common.{length}
use Rattle.lexical_forms.proofs.suffix.+is_followed.Given as goal

abbrev pub decreases-is_followed : goal.decreases-is_followed
decreases-is_followed l = length l.words.now
