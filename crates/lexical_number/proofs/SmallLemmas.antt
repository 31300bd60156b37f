-- Numbers of 64 bits, by the number of their digits behind leading zeros.
use Rattle.std.proofs.Common.{rules}
use Rattle.lexical_number.proofs.Common.{Bool, IsTrue, List, None, Some, [], agree_below_at, ap, arith, byte_value, cons_option, digits_in, false}
use Rattle.lexical_number.proofs.Common.{if◌then◌else◌, leading_zeros, length, mod-add-mod, mul-le-mul_right, nat_le, nat_lt, nat_tests, number}
use Rattle.lexical_number.proofs.Common.{number_from_digits_after, number_lt, places, pow-le-pow_right, pow-suc, pow-zero, refl, slice_index_or, subst, suc}
use Rattle.lexical_number.proofs.Common.{sym, true, zero, ℕ, ◌%◌, ◌&&◌, ◌*◌, ◌++◌, ◌+◌, ◌-◌, ◌<◌, ◌==◌, ◌^◌, ◌||◌, ◌↔◌, ◌∙◌, ◌∷◌, ◌≡◌, ◌≤◌}
use Rattle.std.specs.Int.Digits.{AllBelowBase, number_from_digits}
use Rattle.lexical_number.specs.Small.{IsSmall}
use Rattle.std.proofs.lemmas.Nat.{mul-mod_first}
use Rattle.lexical_number.specs.declared.small.TheConstants.{MOST}
use native.Mathlib.Omega.{by_contra}

-- Digits behind a number are those behind each number that is the same modulo `2 ^ 64`.
pub push_same : (radix s t v : ℕ) → s % 2 ^ 64 ≡ t % 2 ^ 64 → (s * radix + v) % 2 ^ 64 ≡ (t * radix + v) % 2 ^ 64
push_same radix s t v same =
    let product : s * radix % 2 ^ 64 ≡ t * radix % 2 ^ 64 =
    sym (mul-mod_first s radix (2 ^ 64)) ∙ ap (λ n. n * radix % 2 ^ 64) same ∙ mul-mod_first t radix (2 ^ 64) in
    sym (mod-add-mod (s * radix) (2 ^ 64) v) ∙ ap (λ n. (n + v) % 2 ^ 64) product ∙ mod-add-mod (t * radix) (2 ^ 64) v

-- A row is the greatest number of digits.
abbrev most : ℕ → ℕ
most radix = slice_index_or MOST radix 0

is_most : (radix : ℕ) → 2 ≤ radix → radix ≤ 36 → (radix ^ most radix ≤ 2 ^ 64) × (2 ^ 64 < radix ^ (most radix + 1))
is_most radix low high =
    let all = agree_below_at (λ r. nat_lt r 2 || (nat_le (r ^ most r) (2 ^ 64) && nat_lt (2 ^ 64) (r ^ (most r + 1)))) (λ _. true) 37 radix refl
    (omega arith) in
    grind (arith, nat_tests)

pub twelve_fit : (radix digits : ℕ) → 2 ≤ radix → radix ≤ 36 → digits ≤ 12 → radix ^ digits ≤ 2 ^ 64
twelve_fit radix digits low high few =
    let all = agree_below_at (λ r. nat_le (r ^ 12) (2 ^ 64)) (λ _. true) 37 radix refl (omega arith) in
    let grows : radix ^ digits ≤ radix ^ 12 = pow-le-pow_right {n = radix} (omega arith) {i = digits} {j = 12} few in
    grind (arith, nat_tests)

pub fits_is : (radix digits : ℕ) → 2 ≤ radix → radix ≤ 36 → IsTrue (nat_le digits (slice_index_or MOST radix 0)) ↔ (radix ^ digits ≤ 2 ^ 64)
fits_is radix digits low high =
    let row = is_most radix low high in (
      λ is. let below : digits ≤ most radix = grind (arith, nat_tests) in
          let grows : radix ^ digits ≤ radix ^ most radix = pow-le-pow_right {n = radix} (omega arith) {i = digits} {j = most radix} below in
          omega (arith, grows, row.0),
      λ is. go (nat_le digits (most radix)) refl (λ over. let grows : radix ^ (most radix + 1) ≤ radix ^ digits =
          pow-le-pow_right {n = radix} (omega arith) {i = most radix + 1} {j = digits} over in omega (arith, grows, row.1, is)),
    ) where
      go : (test : Bool) → nat_le digits (most radix) ≡ test → (most radix + 1 ≤ digits → ⊥) → IsTrue test
      go true is none = refl
      go false is none = absurd (none (grind (arith, nat_tests)))

-- Digits are below their radix.
pub below : (radix : ℕ) (bytes : List ℕ) → AllBelowBase radix (digits_in radix bytes)
below radix [] = tt
below radix (byte ∷ bytes) = search (rules, below radix bytes, nat_lt, byte_value, digits_in, cons_option)

-- A leading zero does not change the number.
no_change : (radix : ℕ) (ds : List ℕ) → number_from_digits radix (zero ∷ ds) ≡ number_from_digits radix ds
no_change radix ds = ap (λ n. number_from_digits_after radix n ds) {x = 0 * radix + 0} {y = 0} (omega arith)

left : (n k : ℕ) → suc n - suc k ≡ n - k
left n k = omega arith

-- Behind the leading zeros, there are as many digits as the number has.
pub at_most : (radix : ℕ) (ds : List ℕ) → AllBelowBase radix ds → number_from_digits radix ds < radix ^ (length ds - leading_zeros ds)
at_most radix [] all = let none : 0 - 0 ≡ 0 = omega arith in subst (λ n. 0 < n) (sym (ap (λ k. radix ^ k) none ∙ pow-zero radix)) (omega arith)
at_most radix (zero ∷ ds) all = search (rules, at_most radix ds all.1, pow-zero, left, leading_zeros, no_change, number_lt)
at_most radix (suc d ∷ ds) all = let whole : suc (length ds) ≡ suc (length ds) - 0 = omega arith in
    subst (λ k. number_from_digits radix (suc d ∷ ds) < radix ^ k) whole (number_lt radix (suc d ∷ ds) all)

-- Digits that follow others multiply these.
follows : (radix n : ℕ) (ds : List ℕ) → n * radix ^ length ds ≤ number_from_digits_after radix n ds
follows radix n [] = let one : radix ^ 0 ≡ 1 = pow-zero radix in omega (arith, ap (λ x. n * x) one)
follows radix n (d ∷ ds) = search (rules, follows radix (n * radix + d) ds, pow-zero, mul-le-mul_right, pow-suc)

pub at_least : (radix : ℕ) (ds : List ℕ) → leading_zeros ds < length ds → radix ^ (length ds - leading_zeros ds - 1) ≤ number_from_digits radix ds
at_least radix [] less = absurd (omega (arith, less))
at_least radix (zero ∷ ds) less = subst (λ k. radix ^ (k - 1) ≤ number_from_digits radix (zero ∷ ds)) (sym (left (length ds) (leading_zeros ds)))
    (subst (λ n. radix ^ (length ds - leading_zeros ds - 1) ≤ n) (sym (no_change radix ds)) (at_least radix ds (omega (arith, less))))
at_least radix (suc d ∷ ds) less =
    let first : 0 * radix + suc d ≡ suc d = omega arith in
    let all : suc d * radix ^ length ds ≤ number_from_digits radix (suc d ∷ ds) =
    subst (λ n. suc d * radix ^ length ds ≤ number_from_digits_after radix n ds) (sym first) (follows radix (suc d) ds) in
    let one : 1 * radix ^ length ds ≤ suc d * radix ^ length ds = (let some : 1 ≤ suc d = omega arith in mul-le-mul_right (radix ^ length ds) some) in
    let here : suc (length ds) - 0 - 1 ≡ length ds = omega arith in
    subst (λ k. radix ^ k ≤ number_from_digits radix (suc d ∷ ds)) (sym here) (omega (arith, all, one))

pub zeros_within : (ds : List ℕ) → leading_zeros ds ≤ length ds
zeros_within [] = omega arith
zeros_within (zero ∷ ds) = let rest = zeros_within ds in omega (arith, rest)
zeros_within (suc d ∷ ds) = omega arith

-- Digits that follow others.
pub zeros_append : (xs ys : List ℕ) → leading_zeros (xs ++ ys)
    ≡ (if leading_zeros xs == length xs then leading_zeros xs + leading_zeros ys else leading_zeros xs)
zeros_append [] ys = omega arith
zeros_append (zero ∷ xs) ys = let rest = zeros_append xs ys in grind (arith, nat_tests)
zeros_append (suc d ∷ xs) ys = grind (arith, nat_tests)

-- A number is a word if each number of so many digits is.
pub short_word : (radix digits sum : ℕ) (bytes : List ℕ) → radix ^ digits ≤ 2 ^ 64 → number radix bytes < radix ^ digits → sum ≡ number radix bytes % 2 ^ 64
    → IsSmall radix (number radix bytes) (Some sum)
short_word radix digits sum bytes fits small is = record { some = λ _. refl; value = is ∙ omega (arith, fits, small) }

-- Otherwise, it is not short.
pub long_word : (radix : ℕ) (bytes : List ℕ) → 2 ≤ radix
    → (radix ^ (places radix bytes - leading_zeros (digits_in radix bytes)) ≤ 2 ^ 64 → ⊥) → IsSmall radix (number radix bytes) None
long_word radix bytes low long = record {
  some = λ short. absurd (long (fewer short.0 short.1 short.2));
  value = tt;
} where
  ds : List ℕ
  ds = digits_in radix bytes

  fewer : (k : ℕ) → number radix bytes < radix ^ k → radix ^ k ≤ 2 ^ 64 → radix ^ (places radix bytes - leading_zeros ds) ≤ 2 ^ 64
  fewer k small fits =
      let grows : (i j : ℕ) → i ≤ j → radix ^ i ≤ radix ^ j = λ i j within. pow-le-pow_right {n = radix} (omega (arith, low)) {i = i} {j = j} within in
      let few : length ds - leading_zeros ds ≤ k = by_contra _ k (λ more.
      omega (arith, at_least radix ds (omega (arith, more)), grows k (length ds - leading_zeros ds - 1) (omega (arith, more)), small)) in
      omega (arith, grows (length ds - leading_zeros ds) k few, fits)

pub fitting_word : (radix digits sum : ℕ) (bytes : List ℕ) → radix ^ digits ≤ 2 ^ 64 → digits ≡ places radix bytes → sum ≡ number radix bytes % 2 ^ 64
    → IsSmall radix (number radix bytes) (Some sum)
fitting_word radix digits sum bytes fits all = search (rules, short_word, number, number_lt, digits_in, below)

-- What the digits behind leading zeros are below.
pub ruleset sizes = (at_most, below, long_word, short_word, zeros_within)
