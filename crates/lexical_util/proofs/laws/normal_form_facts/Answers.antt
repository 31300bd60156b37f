use Rattle.std.proofs.Common.{sym, subst}
use Rattle.lexical_flags.specs.Rules.{Lawful}
use Rattle.lexical_util.proofs.NormalLemmas.{raw_normal, clean_normal, normal_keeps, normal_same, same_from_normal}
use Rattle.lexical_util.proofs.laws.normal_form_facts.Goals as goal

pub returns : goal.returns
returns c = record {
  same = normal_keeps;
  equal = λ a b. (same_from_normal a b, normal_same a b);
  lawful_same = λ w other same lawful. subst Lawful (sym (normal_same w other same))
      (c.rule_facts.ensures.kept_lawful other _ (clean_normal other) (raw_normal other) lawful);
}
