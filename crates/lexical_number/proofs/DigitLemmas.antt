-- The number that digits represent when they follow those of another number.
use Rattle.std.proofs.Common.{rules}
use Rattle.lexical_number.proofs.Common.{List, Option, Some, ap, arith, byte_value, cons_option, digit_of, digits_in, drop, drop-cons, filter_map-append}
use Rattle.lexical_number.proofs.Common.{get_or, length, nat_lt, number_after, number_after_append, number_after_ge, number_from_digits_after, subst, suc, sym}
use Rattle.lexical_number.proofs.Common.{ℕ, ◌*◌, ◌++◌, ◌+◌, ◌<◌, ◌∙◌, ◌∷◌, ◌≡◌, ◌≤◌}

-- What is left at the index `i` begins with the byte at `i`.
module _ (radix n i : ℕ) (bytes : List ℕ) (inside : i < length bytes) where
  next : drop i bytes ≡ get_or bytes i 0 ∷ drop (i + 1) bytes
  next = drop-cons bytes i 0 inside ∙ ap (λ k. get_or bytes i 0 ∷ drop k bytes) {x = suc i} {y = i + 1} (omega arith)

  pub at : (o : Option ℕ) → digit_of (get_or bytes i 0) radix ≡ o
      → number_after radix n (drop i bytes) ≡ number_from_digits_after radix n (cons_option o (digits_in radix (drop (i + 1) bytes)))
  at o e = ap (number_after radix n) next ∙ ap (λ d. number_from_digits_after radix n (cons_option d (digits_in radix (drop (i + 1) bytes)))) e

-- More digits do not make a number smaller. A radix with a digit is not 0.
grows : (radix n byte d : ℕ) (bytes : List ℕ) → digit_of byte radix ≡ Some d → n ≤ number_after radix n bytes
grows radix n byte d bytes e = search (rules, number_after_ge, digits_in, nat_lt, byte_value)

-- Digits that follow others are read after them.
pub number_after-append : (radix n : ℕ) (xs ys : List ℕ) → number_after radix n (xs ++ ys) ≡ number_after radix (number_after radix n xs) ys
number_after-append radix n xs ys = ap (number_from_digits_after radix n) (filter_map-append _ xs ys) ∙ number_after_append radix n (digits_in radix xs) _

-- The number is not smaller than that of the digits up to one at the index `i`.
pub too_large : (radix n i d : ℕ) (bytes : List ℕ) → i < length bytes → digit_of (get_or bytes i 0) radix ≡ Some d
    → n * radix + d ≤ number_after radix n (drop i bytes)
too_large radix n i d bytes inside e = subst (λ whole. n * radix + d ≤ whole) (sym (at radix n i bytes inside (Some d) e))
    (grows radix (n * radix + d) (get_or bytes i 0) d (drop (i + 1) bytes) e)
