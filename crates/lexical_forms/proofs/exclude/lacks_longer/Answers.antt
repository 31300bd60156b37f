-- A form without the prefix that is required has no front, and no literal goes on behind a byte that plays no role.
use Rattle.lexical_forms.proofs.Common.{notation_of}
use Rattle.lexical_forms.proofs.LeadingLemmas.{no_front_past}
use Rattle.lexical_forms.proofs.exclude.lacks_longer.Goals as goal

pub returns-else-has_no_prefix-clause-front : goal.returns-else-has_no_prefix-clause-front
returns-else-has_no_prefix-clause-front c = λ is. no_front_past (notation_of c.args.grammar) c.args.text.now c.args.size (c.is_over.ensures is)
