-- Lemmas on fields that are one above the other, joined by `|` and selected by `&`.
use Rattle.std.proofs.lemmas.Bool.Decides.{nat_tests}
use Rattle.lexical_flags.proofs.Common.{ℕ, ◌≡◌, ◌+◌, ◌-◌, ◌*◌, ◌/◌, ◌%◌, ◌^◌, ◌<◌, ◌≤◌, Bool, true, ◌&&◌, List, [], ◌∷◌, sum_by, bit_and, bit_or, refl, ap, sym}
use Rattle.lexical_flags.proofs.Common.{◌∙◌, arith, and_zero_r, fold, mul-le-mul_left, mod-eq_of_lt, mod-lt, lt_of_le_of_lt, and_parts, pow-add, pow_pos}
use Rattle.lexical_flags.proofs.Common.{and_mask, and_le_r, part}
use Rattle.std.proofs.Common.{leb}
use Rattle.std.proofs.Math.Nat.{pow-le-pow_right}
use Rattle.std.proofs.lemmas.Bool.{leb-true}
use Rattle.std.proofs.lemmas.Nat.{shr_split, and_block, and_mod, or_comm, or_shifted}

-- `ascends start width s xs` is true if each field starts at the end of the field before or above it, and the first one
-- starts at bit s or above.
abbrev pub ascends : {X : Type 0} → (X → ℕ) → ℕ → ℕ → List X → Bool
ascends start width s [] = true
ascends start width s (x ∷ xs) = leb s (start x) && ascends start width (start x + width) xs

-- `above start width s xs` is the end of the last field.
abbrev pub above : {X : Type 0} → (X → ℕ) → ℕ → ℕ → List X → ℕ
above start width s [] = s
above start width s (x ∷ xs) = above start width (start x + width) xs

-- If a mask has one more block of n bits, then `&` with it has one more part of the word.
pub and_block_more : (w a k n : ℕ) → a < 2 ^ k → bit_and w ((2 ^ n - 1) * 2 ^ k + a) ≡ bit_and w a + part w k n * 2 ^ k
and_block_more w a k n l =
    let split : (w / 2 ^ k) * 2 ^ k + w % 2 ^ k ≡ w = shr_split w k in
    let low : bit_and (w % 2 ^ k) a ≡ bit_and w a = ap (λ x. bit_and (w % 2 ^ k) x) (sym (mod-eq_of_lt l)) ∙ sym (and_mod w a k)
    ∙ mod-eq_of_lt (lt_of_le_of_lt (and_le_r w a) l) in
    ap (λ x. bit_and x ((2 ^ n - 1) * 2 ^ k + a)) (sym split)
    ∙ (and_block k (w / 2 ^ k) (2 ^ n - 1) (w % 2 ^ k) a (mod-lt w (pow_pos k)) l) ∙ (λ i. and_mask (w / 2 ^ k) n i * 2 ^ k + low i) ∙ omega arith

-- If a mask has one more bit, then `&` with it has one more bit of the word.
and_more : (w a k : ℕ) → a < 2 ^ k → bit_and w (a + 2 ^ k) ≡ bit_and w a + part w k 1 * 2 ^ k
and_more w a k l = let mask : a + 2 ^ k ≡ (2 ^ 1 - 1) * 2 ^ k + a = omega arith in
    ap (bit_and w) mask ∙ and_block_more w a k 1 l

-- If a field above all others is joined by `|`, then its bits are added, and the result is below its end.
or_more : (low s k n v : ℕ) → low < 2 ^ s → s ≤ k → v < 2 ^ n → (bit_or low (v * 2 ^ k) ≡ low + v * 2 ^ k) × (low + v * 2 ^ k < 2 ^ (k + n))
or_more low s k n v l start fits = grind (arith, nat_tests, pow-le-pow_right, mul-le-mul_left, or_comm, or_shifted, pow-add)

module _ {X : Type 0} (start value : X → ℕ) (n : ℕ) (fits : (x : X) → value x < 2 ^ n) where
  pub or_all : (xs : List X) (s low : ℕ) → low < 2 ^ s → ascends start n s xs ≡ true
      → fold (λ a x. bit_or a (value x * 2 ^ start x)) low xs ≡ fold (λ a x. a + value x * 2 ^ start x) low xs
  or_all [] s low l up = refl
  or_all (x ∷ xs) s low l up =
      let parts = and_parts (leb s (start x)) (ascends start n (start x + n) xs) up in
      let more = or_more low s (start x) n (value x) l (leb-true s (start x) parts.0) (fits x) in
      ap (λ a. fold (λ a x. bit_or a (value x * 2 ^ start x)) a xs) more.0 ∙ or_all xs (start x + n) (low + value x * 2 ^ start x) more.1 parts.1

  pub sum-below : (xs : List X) (s low : ℕ) → low < 2 ^ s → ascends start n s xs ≡ true
      → fold (λ a x. a + value x * 2 ^ start x) low xs < 2 ^ above start n s xs
  sum-below [] s low l up = l
  sum-below (x ∷ xs) s low l up =
      let parts = and_parts (leb s (start x)) (ascends start n (start x + n) xs) up in
      let more = or_more low s (start x) n (value x) l (leb-true s (start x) parts.0) (fits x) in
      sum-below xs (start x + n) (low + value x * 2 ^ start x) more.1 parts.1

module _ {X : Type 0} (start : X → ℕ) where
  and_from : (xs : List X) (s w low : ℕ) → low < 2 ^ s → ascends start 1 s xs ≡ true
      → bit_and w (fold (λ a x. a + 2 ^ start x) low xs) ≡ fold (λ a x. a + part w (start x) 1 * 2 ^ start x) (bit_and w low) xs
  and_from [] s w low l up = refl
  and_from (x ∷ xs) s w low l up =
      let parts = and_parts (leb s (start x)) (ascends start 1 (start x + 1) xs) up in
      let wide : 2 ^ s ≤ 2 ^ start x = pow-le-pow_right {n = 2} (omega arith) (leb-true s (start x) parts.0) in
      let below : low < 2 ^ start x = omega arith in
      let next : low + 2 ^ start x < 2 ^ (start x + 1) = rw (pow-add 2 (start x) 1) (omega arith) in
      and_from xs (start x + 1) w (low + 2 ^ start x) next parts.1
      ∙ ap (λ a. fold (λ a x. a + part w (start x) 1 * 2 ^ start x) a xs) (and_more w low (start x) below)

  -- The `&` of a word and the mask of some bits is the sum of these bits of the word.
  pub and_all : (xs : List X) (w : ℕ) → ascends start 1 0 xs ≡ true
      → bit_and w (sum_by (λ x. 2 ^ start x) xs) ≡ sum_by (λ x. part w (start x) 1 * 2 ^ start x) xs
  and_all xs w up = and_from xs 0 w 0 (omega arith) up ∙ ap (λ a. fold (λ a x. a + part w (start x) 1 * 2 ^ start x) a xs) (and_zero_r w)
