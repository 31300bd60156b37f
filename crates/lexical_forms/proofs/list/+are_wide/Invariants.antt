use Rattle.lexical_forms.proofs.Common.{length}
use Rattle.lexical_forms.proofs.list.+are_wide.Given as goal

abbrev pub decreases-are_wide : goal.decreases-are_wide
decreases-are_wide l = length l.forms.now
