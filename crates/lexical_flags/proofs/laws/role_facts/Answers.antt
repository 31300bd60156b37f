use Rattle.lexical_flags.specs.Rules.{Lawful}
use Rattle.lexical_flags.proofs.DisjointLemmas.{disjoint_bytes}
use Rattle.lexical_flags.proofs.OptionLemmas.{accepted_roles}
use Rattle.lexical_flags.proofs.laws.role_facts.Goals as goal

pub returns : goal.returns
unfolding Lawful
returns c = record {
  disjoint = disjoint_bytes;
  five = λ word lawful. lawful.roles;
  lawful = λ word e p lawful. (accepted_roles word e p lawful).0;
}
