use Rattle.std.proofs.Common.{◌≡◌, Some, refl, rules}
use Rattle.lexical_util.specs.Unfoldable.{on_literals}
use Rattle.lexical_util.specs.declared.feature_format.roles.Role.TheVariants as roles
use Rattle.lexical_util.proofs.laws.examples.role_examples.Goals as goal

pub returns : goal.returns
unfolding on_literals
returns c = record {
  sign = c.byte_facts.ensures.only 0x0A0A0A00_00000000_00000000_0000000C 0x65 0x2E (search rules) (search rules) 0x2B;
  other_role = λ h. let same : Some roles.Digit ≡ Some roles.Sign = (h roles.Sign).0 refl in cc;
}
