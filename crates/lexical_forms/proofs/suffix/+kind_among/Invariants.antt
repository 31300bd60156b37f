use Rattle.lexical_forms.proofs.Common.{length}
use Rattle.lexical_forms.proofs.suffix.+kind_among.Given as goal

abbrev pub decreases-kind_among : goal.decreases-kind_among
decreases-kind_among l = length l.kinds.now
