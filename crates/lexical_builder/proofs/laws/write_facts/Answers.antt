use Rattle.lexical_builder.proofs.WriteLemmas.{after-append, after-order}
use Rattle.lexical_builder.proofs.laws.write_facts.Goals as goal

pub returns-clause-append : goal.returns-clause-append
returns-clause-append c = after-append

pub returns-clause-order : goal.returns-clause-order
returns-clause-order c = after-order
