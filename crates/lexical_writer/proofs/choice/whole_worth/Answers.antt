-- What is worth no integer of any type is worth none.
use Rattle.lexical_writer.proofs.Common.{ap, false≢true, is_some, sym, ◌∙◌}
use Rattle.lexical_writer.proofs.ChoiceLemmas.{never_whole}
use Rattle.lexical_writer.proofs.choice.whole_worth.Goals as goal

pub returns-in-Err-clause-none : goal.returns-in-Err-clause-none
returns-in-Err-clause-none c equal w small is = false≢true (ap is_some (sym (never_whole c.args.literal.now _ c.in-Err.ensures) ∙ is))
