-- The zeros of the fraction count if the integer has no other digits.
use Rattle.std.proofs.Common.{rules}
use Rattle.lexical_number.proofs.Common.{Bool, List, digits_in, false, filter_map-append, if◌then◌else◌, leading_zeros, places, refl, sym, true, ℕ, ◌++◌, ◌+◌}
use Rattle.lexical_number.proofs.Common.{◌==◌, ◌∙◌, ◌≡◌}
use Rattle.lexical_number.proofs.SmallLemmas.{zeros_append}
use Rattle.lexical_number.proofs.small.all_zeros.Goals as goal

joined : (radix : ℕ) (x y : List ℕ) (b : Bool) (first second : ℕ) → first ≡ leading_zeros (digits_in radix x)
    → b ≡ (leading_zeros (digits_in radix x) == places radix x) → second ≡ leading_zeros (digits_in radix y)
    → (if b then first + second else first) ≡ leading_zeros (digits_in radix (x ++ y))
joined radix x y b first second F B S = search (rules, zeros_append, digits_in, leading_zeros, filter_map-append)

pub returns-then-all : goal.returns-then-all
returns-then-all c = let first = c.leading_zeros-zeros.ensures in joined c.args.radix c.args.integer.now c.args.fraction.now true _ _ first.zeros
    (sym c.if-all.true ∙ first.all) c.leading_zeros.ensures.zeros

pub returns-else-all : goal.returns-else-all
returns-else-all c = let first = c.leading_zeros-zeros.ensures in joined c.args.radix c.args.integer.now c.args.fraction.now false _ _ first.zeros
    (sym c.if-all.false ∙ first.all) refl
