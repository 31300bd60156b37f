use Rattle.lexical_forms.proofs.Common.{length}
use Rattle.lexical_forms.proofs.suffix.+is_one_met.Given as goal

abbrev pub decreases-is_one_met : goal.decreases-is_one_met
decreases-is_one_met l = length l.stops.now
