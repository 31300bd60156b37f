-- Which literals there are not.
use Rattle.lexical_writer.proofs.Common.{List, arith, false, is_absent, is_minus, is_plus, true, ℕ, ◌||◌, ◌≡◌}
use Rattle.lexical_literal.specs.declared.syntax.Condition.TheVariants as conditions
use Rattle.lexical_writer.proofs.laws.refusal_facts.Goals as goal

no_minus : (sign : List ℕ) → (is_absent sign || is_plus sign) ≡ true → is_minus sign ≡ false
no_minus bytes is = grind arith

pub returns-clause-negative : goal.returns-clause-negative
returns-clause-negative c g l text set reads = no_minus l.sign (reads.literal.conditions conditions.NegativeSign set)
