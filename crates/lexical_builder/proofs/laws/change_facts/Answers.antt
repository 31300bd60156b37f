use Rattle.lexical_builder.proofs.Common.{ap, ◌∙◌, raw}
use Rattle.lexical_builder.proofs.ChangeLemmas.{Holds-radix, raw-bare, Holds-bare}
use Rattle.lexical_builder.proofs.laws.change_facts.Goals as goal

pub returns : goal.returns
returns c = record {
  radix = λ word radix lawful in_range separator prefix suffix. (c.rule_facts.ensures.lawful _).1
      (Holds-radix word radix ((c.rule_facts.ensures.lawful word).0 lawful) in_range separator prefix suffix);
  no_separator_fields = λ word bare is. ap raw is ∙ raw-bare word;
  no_separator = Holds-bare;
}
