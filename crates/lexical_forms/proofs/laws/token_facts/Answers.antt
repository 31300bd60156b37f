-- What the parts of a token are.
use Rattle.lexical_forms.proofs.FactLemmas.{is_whole, parts_are}
use Rattle.lexical_forms.proofs.laws.token_facts.Goals as goal

pub returns-clause-parts : goal.returns-clause-parts
returns-clause-parts c = parts_are

pub returns-clause-whole : goal.returns-clause-whole
returns-clause-whole c = is_whole
