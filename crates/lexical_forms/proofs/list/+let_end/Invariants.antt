use Rattle.lexical_forms.proofs.Common.{length}
use Rattle.lexical_forms.proofs.list.+let_end.Given as goal

abbrev pub decreases-let_end : goal.decreases-let_end
decreases-let_end l = length l.forms.now
