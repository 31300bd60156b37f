use Rattle.std.proofs.Common.{rules, eq-eqb, eqb-true}
use Rattle.lexical_util.proofs.NormalLemmas.{normal_same, same_from_normal}
use Rattle.lexical_util.proofs.edits.same_format.Goals as goal

pub returns-clause-fields : goal.returns-clause-fields
returns-clause-fields c = search (rules, same_from_normal, eqb-true, eq-eqb, normal_same)
