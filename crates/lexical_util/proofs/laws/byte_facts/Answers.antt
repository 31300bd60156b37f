use Rattle.std.proofs.Common.{ℕ, ◌≤◌, ◌<◌, min, nat_lt, IsTrue, arith}
use Rattle.std.proofs.lemmas.Bool.{or_left, or_right}
use Rattle.std.proofs.lemmas.Bool.Decides.{nat_tests}
use Rattle.lexical_flags.specs.Rules.{Lawful}
use Rattle.lexical_util.proofs.ByteRoleLemmas.{apart_from, digit_or_separator, one_role, first_role-only}
use Rattle.lexical_util.proofs.laws.byte_facts.Goals as goal

digit : (value radix : ℕ) → radix ≤ 36 → value < radix → IsTrue (nat_lt value (min radix 36))
digit value radix most below = grind (arith, nat_tests)

pub returns : goal.returns
unfolding Lawful
returns c = record {
  mantissa_digit = λ word byte lawful below. or_left _ _ (digit _ _ lawful.mantissa_radix.1 below);
  exponent_digit = λ word byte lawful below. or_right _ _ (digit _ _ lawful.exponent_radix.1 below);
  separator = λ word byte lawful. digit_or_separator c.role_facts.ensures.disjoint word lawful byte;
  one = λ word e p lawful fit.
      one_role c.role_facts.ensures.disjoint word e p (apart_from word e p (c.role_facts.ensures.lawful word e p lawful fit));
  only = λ word e p lawful fit.
      first_role-only c.role_facts.ensures.disjoint word e p (apart_from word e p (c.role_facts.ensures.lawful word e p lawful fit));
}
