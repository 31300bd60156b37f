-- Lemmas on the order of outcomes: two different outcomes are never equal, and swapping them reverses the result.
use Rattle.std.proofs.lemmas.Bool.Decides.{nat_tests}
use Rattle.std.proofs.Common.{arith, ◌≡◌, ◌↔◌, Ordering, Equal, sym, ap, ◌∙◌, rules}
use Rattle.std.specs.Cmp.{IsTotalOrder}
use Rattle.std.specs.Cmp.Rules.{comparing}
use Rattle.std.specs.Ordering.{ordering_reverse}
use Rattle.lexical_base.specs.declared.error.Error.{Error}
use Rattle.lexical_base.specs.OutcomeOrder.{compare_outcomes}

total : IsTotalOrder compare_outcomes
total = search (comparing, rules)

-- Two outcomes are equal in their order if and only if they are the same.
pub tied : (a b : Error) {order : Ordering} → order ≡ compare_outcomes a b → (order ≡ Equal) ↔ (a ≡ b)
tied a b is = grind (arith, nat_tests)

-- Swapping two outcomes reverses the result of comparing them.
pub reversed : (a b : Error) {order : Ordering} → order ≡ compare_outcomes a b → compare_outcomes b a ≡ ordering_reverse order
reversed a b is = total.antisymm b a ∙ ap ordering_reverse (sym is)
