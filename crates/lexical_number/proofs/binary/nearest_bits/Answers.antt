-- The leading word has the same nearest float.
use Rattle.std.proofs.Common.{rules}
use Rattle.lexical_number.proofs.Common.{Bool, IsCutTo, IsNearestBits, arith, eq_of_mul-eq-mul_right, format_of, mul-pos, nearest_of_zero, pow_pos, subst, sym}
use Rattle.lexical_number.proofs.Common.{ℕ, ◌*◌, ◌+◌, ◌<◌, ◌^◌}
use Rattle.lexical_number.proofs.BinaryLemmas.{far_above, far_below, without}
use Rattle.lexical_number.proofs.LeadingLemmas.{exact, in_powers}
use Rattle.lexical_number.proofs.binary.nearest_bits.Goals as goal

pub returns-then-digits-eq0 : goal.returns-then-digits-eq0
returns-then-digits-eq0 c num den D cut = search (rules, nearest_of_zero, format_of, eq_of_mul-eq-mul_right, pow_pos, exact)

module _ (num den up down digits : ℕ) (more : Bool) (D : 0 < den) (cut : IsCutTo (num * 2 ^ down) digits more (den * 2 ^ up)) where
  led : (word z : ℕ) (some : Bool) → ((n unit : ℕ) → 0 < unit → IsCutTo n digits more unit → IsCutTo (n * 2 ^ z) word some (unit * 2 ^ 72))
      → IsCutTo (num * 2 ^ (down + z)) word some (den * 2 ^ (up + 72))
  led word z some leads = in_powers num den up down _ _ (leads _ _ (mul-pos D (pow_pos up)) cut)

pub returns-then-down-up : goal.returns-then-down-up
returns-then-down-up c num den D cut = subst (IsNearestBits _ _ _) (sym c.infinity.ensures.value)
    (far_above (format_of c.args.double) num den _ _ _ D (led num den _ _ _ _ D cut _ _ _ c.leading_word-word.ensures.value)
    (omega (arith, c.leading_word-word.ensures.top)) (omega arith))

pub returns-then-up-down : goal.returns-then-up-down
returns-then-up-down c num den D cut =
    far_below (format_of c.args.double) num den _ _ _ D (led num den _ _ _ _ D cut _ _ _ c.leading_word-word.ensures.value) (omega arith) (omega arith)

pub returns : goal.returns
returns c num den D cut = c.nearest_to_word.ensures num den D
    (without num den (c.args.up + 72) (c.args.down + c.leading_word-word.result.2) c.least-both.result (omega (arith, c.least-both.ensures))
    (omega (arith, c.least-both.ensures)) (led num den _ _ _ _ D cut _ _ _ c.leading_word-word.ensures.value))
