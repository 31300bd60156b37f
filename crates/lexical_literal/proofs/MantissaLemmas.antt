-- The sums of the digits of the integer and the fraction.
use Rattle.lexical_literal.proofs.Common.{AreSums, IsMantissa, IsRunOn, IsSum, List, Literal, Notation, Reading, Record, Stage, arith, digits_in}
use Rattle.lexical_literal.proofs.Common.{effective_exponent_radix, filter_map-append, number, number_after_append, number_from_digits_after, places, radix_of}
use Rattle.lexical_literal.proofs.Common.{ℕ, ◌%◌, ◌++◌, ◌+◌, ◌-◌, ◌^◌, ◌≡◌}
use lib.ListN.{length-append}
use Rattle.lexical_literal.specs.declared.literal.Sums.{Sums}
use Rattle.lexical_util.specs.Layout as layout
use Rattle.lexical_util.specs.declared.format_flags.Part.TheVariants as parts
use Rattle.lexical_literal.proofs.SumLemmas.{after_same}

-- Digits of one run, and then of another.
pub both_digits : (radix : ℕ) (xs ys : List ℕ) (first second : ℕ) → first ≡ places radix xs → second ≡ first + places radix ys
    → second ≡ places radix (xs ++ ys)
both_digits radix xs ys first second F S = grind (arith, length-append, filter_map-append)

pub both_sums : (radix : ℕ) (xs ys : List ℕ) (first second : ℕ) → first % 2 ^ 64 ≡ number radix xs % 2 ^ 64
    → second % 2 ^ 64 ≡ number_from_digits_after radix first (digits_in radix ys) % 2 ^ 64 → second % 2 ^ 64 ≡ number radix (xs ++ ys) % 2 ^ 64
both_sums radix xs ys first second F S = grind (arith, after_same, number_after_append, filter_map-append)

module _ (m : Notation) (r : Record) (text : List ℕ) where
  -- The fraction behind the integer and its point.
  pub fraction_sum : (stage : Stage) (integer run : Reading) → integer.point ≡ 0 → integer.fraction ≡ 0 → IsMantissa r text integer
      → IsRunOn m (radix_of r parts.Fraction) text parts.Fraction (record integer { size = integer.size + 1; stage = stage }) run
      → IsMantissa r text (record integer {
        size = run.size;
        stage = run.stage;
        sum = run.sum;
        point = 1;
        fraction = run.size - (integer.size + 1);
        places = run.sum.digits - integer.sum.digits;
      })
  fraction_sum stage integer run no_point none before is = grind (arith, both_digits, both_sums)

-- The sums of parts are those of the literal with these parts.
pub made_sums : (r : Record) (radix e : ℕ) (l k : Literal) (sums : Sums) → radix ≡ r.byte layout.mantissa_radix → e ≡ effective_exponent_radix r → l ≡ k
    → IsSum radix (l.integer ++ l.fraction) sums.mantissa → sums.places ≡ places radix l.fraction → IsSum e l.exponent sums.exponent → AreSums r k sums
made_sums r radix e l k sums R E same mantissa fraction scale = grind arith
