-- What the lengths of its parts tell of a literal, and what a syntax without conditions is.
use Rattle.std.proofs.Common.{rules}
use Rattle.lexical_literal.proofs.Common.{Conditions, Grammar, IsUsual, List, and_parts, arith, false, has, has_sizes, is_absent, is_minus, is_present, length}
use Rattle.lexical_literal.proofs.Common.{nat_tests, not, notation_of, take, true, ℕ, ◌==◌, ◌||◌, ◌≡◌, ◌≢◌}
use Rattle.lexical_literal.specs.Additions.Scan.{are_usual}
use Rattle.lexical_literal.specs.declared.syntax.Condition.TheVariants as conditions

-- The sign is what the text begins with, if it is there.
pub minus : (n : ℕ) (text : List ℕ) → n ≢ 0 → is_minus text ≡ is_minus (take n text)
minus n text some = grind arith

-- A part is there if its length is not 0.
pub present : (n : ℕ) (bytes : List ℕ) → length bytes ≡ n → not (n == 0) ≡ is_present bytes
present n bytes same = grind arith

pub absent : (n : ℕ) (bytes : List ℕ) → length bytes ≡ n → not (n == 0) ≡ false → is_absent bytes ≡ true
absent n bytes same none = grind arith

pub first : (n k : ℕ) → n ≢ 0 → not (n == 0) ≡ (not (n == 0) || not (k == 0))
first n k some = grind arith

pub second : (n k : ℕ) → n ≡ 0 → not (k == 0) ≡ (not (n == 0) || not (k == 0))
second n k none = grind arith

-- Without conditions but `NegativeSign`, groups have no sizes.
no_sizes : (c : Conditions) → are_usual c ≡ true → has c conditions.IntegerGroupSize ≡ false
no_sizes c usual = grind (arith, nat_tests)

pub usual_sizes : (g : Grammar) → IsUsual g → has_sizes (notation_of g) ≡ false
usual_sizes g usual = search (rules, and_parts, no_sizes)
