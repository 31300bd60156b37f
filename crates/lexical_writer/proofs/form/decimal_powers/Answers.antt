-- The first digit of a decimal number is as many digits before the last as it has.
use Rattle.lexical_writer.proofs.Common.{Bool, ap, arith, false, if◌then◌else◌, nat_tests, raised_down, raised_up, true, ℕ, ◌*◌, ◌+◌, ◌-◌, ◌^◌, ◌≡◌, ◌≤◌}
use Rattle.std.proofs.lemmas.Grind.{common_steps}
use Rattle.lexical_writer.proofs.AmountLemmas.{powers}
use Rattle.lexical_writer.proofs.PowerLemmas.{decimal_first}
use Rattle.lexical_writer.proofs.form.decimal_powers.Goals as goal

-- A power of ten with its sign, plus 400.
record IsRaised (d e power : ℕ) (negative : Bool) : Type 0 where
  few : power ≤ 740
  zero : e ≡ 0 → power ≡ 400
  value : d * 10 ^ power * raised_down negative 10 e ≡ d * raised_up negative 10 e * 10 ^ 400

raised : (d e power : ℕ) (negative : Bool) → e ≤ 340 → power ≡ (if negative then 400 - e else 400 + e) → IsRaised d e power negative
raised d e power true few is = record {
  few = omega (arith, is);
  zero = λ none. omega (arith, is, none);
  value = omega (arith, ap (λ x. d * x) (powers 10 power e 400 (omega (arith, few, is))));
}
raised d e power false few is = record {
  few = omega (arith, few, is);
  zero = λ none. omega (arith, is, none);
  value = omega (arith, ap (λ x. d * x) (powers 10 e 400 power (omega (arith, is))));
}

pub invariant_of-result-clause-limits : goal.invariant_of-result-clause-limits
invariant_of-result-clause-limits c =
    let few : c.raised-power.result ≤ 740 = (raised c.args.decimal.digits _ _ _ c.requires.limits.1 c.raised-power.ensures).few in
    let count : c.saturating_sub.result ≤ 64 = omega (arith, c.saturating_sub.ensures, c.requires.limits.0) in
    (omega (arith, few), omega (arith, few, count), omega arith)

pub invariant_of-result-clause-first : goal.invariant_of-result-clause-first
invariant_of-result-clause-first c = grind (arith, common_steps, nat_tests, decimal_first)

pub invariant_of-result-clause-last : goal.invariant_of-result-clause-last
invariant_of-result-clause-last c some = grind (arith, common_steps, nat_tests)

pub invariant_of-result-clause-none : goal.invariant_of-result-clause-none
invariant_of-result-clause-none c none = grind (arith, common_steps, nat_tests, raised)

pub returns-clause-value : goal.returns-clause-value
returns-clause-value c = (raised c.args.decimal.digits _ _ _ c.requires.limits.1 c.raised-power.ensures).value
