-- From a number by its leading bits to units of least floats, and to the nearest float.
use Rattle.lexical_number.proofs.Common.{Bool, Format, IsCut, IsCutTo, IsJustAbove, IsNearestBits, IsSignificand, IsWithin, ap, arith, bool_byte}
use Rattle.lexical_number.proofs.Common.{count_leading_zeros, leading_top}
use Rattle.lexical_number.proofs.Common.{eq-zero-or-pos, eq_of_mul-eq-mul_right, false, hid, inl, inr, le_of_eq, le_trans, lit≤, low, lt_of_mul-lt-mul_right}
use Rattle.lexical_number.proofs.Common.{mod-eq_of_lt, mul-le-mul_left, mul-le-mul_right, mul-pos, nat_lt, nat_tests, nearest_of_huge, nearest_of_tiny, ones}
use Rattle.lexical_number.proofs.Common.{pow-add, pow_mono, pow_pos, prec, refl, scaled_bits, shl_lt, subst, suc, sym, true, ℕ, ◌%◌, ◌&&◌, ◌*◌, ◌+◌, ◌-◌, ◌/◌}
use Rattle.lexical_number.proofs.Common.{◌<◌, ◌==◌, ◌^◌, ◌||◌, ◌∙◌, ◌≡◌, ◌≤◌}
use native.Mathlib.Nat.{div-add-mod', div-eq_of_lt, le_of_mul-le-mul_right, mod-lt}
use Rattle.core.proofs.dec2flt.Patterns.{shape}
use Rattle.core.proofs.dec2flt.RoundingLemmas.{nearest_tie, nearest_above}
use Rattle.core.proofs.dec2flt.Settle.{lies_above, rounds_down, rounds_up, significand_of}
use Rattle.lexical_number.proofs.LeadingLemmas.{beyond, exact, scaled, unscaled}

powers : (den up l d down e : ℕ) → up + l + d ≡ down + e → den * 2 ^ up * (2 ^ l * 2 ^ d) ≡ den * 2 ^ e * 2 ^ down
powers den up l d down e is = omega (
  arith,
  ap (λ t. den * t) (ap (λ t. 2 ^ up * t) (sym (pow-add 2 l d)) ∙ sym (pow-add 2 up (l + d))
      ∙ ap (λ t. 2 ^ t) {x = up + (l + d)} {y = e + down} (omega arith) ∙ pow-add 2 e down),
)

-- Units of a power of two are parts of units of least floats.
pub cut_at : {digits : ℕ} {more : Bool} (num den up down l d e : ℕ) → up + l + d ≡ down + e → IsCutTo (num * 2 ^ down) digits more (den * 2 ^ up)
    → IsCutTo (num * 2 ^ l * 2 ^ d) digits more (den * 2 ^ e)
cut_at num den up down l d e places cut =
    let moved : num * 2 ^ down * (2 ^ l * 2 ^ d) ≡ num * 2 ^ l * 2 ^ d * 2 ^ down = grind arith in
    unscaled (2 ^ down) (pow_pos down)
    (rw (← moved, ← powers den up l d down e places) (scaled cut (2 ^ l * 2 ^ d) (mul-pos (pow_pos l) (pow_pos d))))

-- Powers of two can be on either side.
pub raised : {n digits : ℕ} {more : Bool} (k p up down : ℕ) → k + p ≡ up → IsCutTo n digits more (2 ^ k)
    → IsCutTo (n * 2 ^ p * 2 ^ down) digits more (2 ^ down * 2 ^ up)
raised {n = n} k p up down is cut =
    let number : n * (2 ^ p * 2 ^ down) ≡ n * 2 ^ p * 2 ^ down = grind arith in
    let units : 2 ^ k * (2 ^ p * 2 ^ down) ≡ 2 ^ down * (2 ^ k * 2 ^ p) = grind arith in
    rw (← number, ← is, pow-add 2 k p, ← units) (scaled cut (2 ^ p * 2 ^ down) (mul-pos (pow_pos p) (pow_pos down)))

module _ (f : Format) (num den d k : ℕ) {h : ℕ} {more : Bool} (near : IsCutTo (num * 2 ^ low f * 2 ^ d) h more (den * 2 ^ k)) where
  pub within_one : IsWithin f num den h 1 d k
  within_one = record { from = near.from; below = near.below }

  -- If what is cut off is half of the lowest kept bit, then the number is halfway, or above that if more digits follow.
  module _ {kept rest half : ℕ} (fits : IsSignificand f (h / 2 ^ d) k) (cut : IsCut h d kept rest half) (D : 0 < den) (same : rest ≡ half)
      (least : 1 ≤ half) where
    halfway : (2 * kept + 1) * (den * 2 ^ k) * 2 ^ d ≡ 2 * (h * (den * 2 ^ k))
    halfway =
        let whole : kept * 2 ^ d + rest ≡ h = rw (cut.above, cut.below) (div-add-mod' h (2 ^ d)) in
        let twice : (2 * kept + 1) * 2 ^ d ≡ 2 * h = omega (arith, cut.twice) in
        (grind arith) ∙ ap (λ t. t * (den * 2 ^ k)) twice ∙ omega arith

    number : 2 * (num * 2 ^ low f) * 2 ^ d ≡ 2 * (num * 2 ^ low f * 2 ^ d)
    number = grind arith

    above : IsJustAbove f num den kept k
    above = lies_above fits cut D within_one (omega arith) least

    pub ties : more ≡ false → IsNearestBits f num den (scaled_bits f (kept + kept % 2) k)
    ties e = nearest_tie f num den kept k D above (eq_of_mul-eq-mul_right (2 ^ d) (pow_pos d) _ _ (number ∙ ap (λ t. 2 * t) (exact near e) ∙ sym halfway))

    pub passes : more ≡ true → IsNearestBits f num den (scaled_bits f (kept + 1) k)
    passes e = nearest_above f num den kept k D above (lt_of_mul-lt-mul_right (2 ^ d) (omega (arith, number, halfway, beyond near e)))

  -- What is cut off decides how the kept bits are rounded.
  module _ {kept rest half : ℕ} (fits : IsSignificand f (h / 2 ^ d) k) (cut : IsCut h d kept rest half) (D : 0 < den) (least : 1 ≤ half) where
    pub rounded : (up : Bool) → up ≡ (nat_lt half rest || ((rest == half) && (more || (kept % 2 == 1))))
        → IsNearestBits f num den (scaled_bits f (kept + bool_byte up) k)
    rounded up is = elim (eq-zero-or-pos (rest - half)) [
      | inr over ↦ by (kept + 1) true (is ∙ grind (arith, nat_tests)) refl (rounds_up fits cut D within_one (omega arith) least)
      | inl z ↦ elim (eq-zero-or-pos (half - rest)) [
        | inr under ↦ by kept false (is ∙ grind (arith, nat_tests)) (omega arith) (rounds_down fits cut D within_one (omega arith))
        | inl y ↦ halfway (omega arith) more refl
      ]
    ]
      where
        by : (n : ℕ) (b : Bool) → up ≡ b → n ≡ kept + bool_byte b → IsNearestBits f num den (scaled_bits f n k)
            → IsNearestBits f num den (scaled_bits f (kept + bool_byte up) k)
        by n b e same = subst (λ n. IsNearestBits f num den (scaled_bits f n k)) (same ∙ ap (λ b. kept + bool_byte b) (sym e))

        two : 0 < 2
        two = omega arith

        halfway : rest ≡ half → (b : Bool) → more ≡ b → IsNearestBits f num den (scaled_bits f (kept + bool_byte up) k)
        halfway same true m = by (kept + 1) true (is ∙ grind (arith, nat_tests)) refl (passes fits cut D same least m)
        halfway same false m = elim (eq-zero-or-pos (kept % 2)) [
          | inl even ↦ by (kept + kept % 2) false (is ∙ grind (arith, nat_tests)) (omega arith) (ties fits cut D same least m)
          | inr odd ↦ by (kept + kept % 2) true (is ∙ grind (arith, nat_tests)) (let bit = mod-lt kept two in omega arith) (ties fits cut D same least m)
        ]

  -- A number below half of the least float.
  pub vanishes : IsSignificand f (h / 2 ^ d) k → 0 < den → 2 * (h + 1) ≤ 2 ^ d → IsNearestBits f num den 0
  vanishes fits D small =
      let none : h / 2 ^ d ≡ 0 = div-eq_of_lt (omega arith) in
      let shape = shape f in
      let least : k ≡ 0 = elim (eq-zero-or-pos k) [ inl z ↦ z | inr K ↦ absurd (omega (arith, fits.normal K)) ] in
      let s : suc (d - 1) ≡ d = elim (eq-zero-or-pos d) [ inl z ↦ absurd (omega (arith, ap (λ d. 2 ^ d) z)) | inr D ↦ omega arith ] in
      let twice : 2 * 2 ^ (d - 1) ≡ 2 ^ d = omega (arith, ap (λ d. 2 ^ d) s) in
      subst (IsNearestBits f num den) (omega (arith, ap (λ k. k * hid f) least))
      (rounds_down fits (record { above = sym none; below = sym (mod-eq_of_lt (omega arith)); twice = twice }) D within_one (omega arith))

pub significand_at : (f : Format) (h j d k : ℕ) → (2 ^ j ≤ h) × (h < 2 ^ (j + 1)) → j + 1 ≤ prec f + d → (0 < k → j + 1 ≡ prec f + d)
    → IsSignificand f (h / 2 ^ d) k
significand_at f h j d k b fits full =
    let e : 2 ^ (j + 1) ≡ 2 * 2 ^ j = pow-add 2 j 1 ∙ omega arith in
    significand_of f j h 0 d k b.0 (omega (arith, b.1)) (sym (div-eq_of_lt (omega (arith, b.1)))) (omega arith) (λ K. omega (arith, full K))

-- A number by its highest bit, which becomes bit `k`.
pub to_top : (a j s k : ℕ) → 2 ^ j ≤ a → a < 2 ^ suc j → j + s ≡ k → (2 ^ k ≤ a * 2 ^ s) × (a * 2 ^ s < 2 ^ suc k)
to_top a j s k from below is =
    let least : 2 ^ k ≡ 2 ^ j * 2 ^ s = ap (λ k. 2 ^ k) {x = k} {y = j + s} (omega arith) ∙ pow-add 2 j s in
    (omega (arith, least, mul-le-mul_right (2 ^ s) from), omega (arith, (ap (λ k. 2 ^ k) {x = suc j + s} {y = suc k} (omega arith)), shl_lt (suc j) s below))

-- A word whose highest bit becomes bit 63.
module _ (digits : ℕ) (some : 0 < digits) (fits : digits < 2 ^ 64) where
  pub shifted : (2 ^ 63 ≤ digits * 2 ^ count_leading_zeros 64 digits) × (digits * 2 ^ count_leading_zeros 64 digits < 2 ^ 64)
  shifted = let t = leading_top 64 digits some fits in to_top digits t.0 (count_leading_zeros 64 digits) 63 t.2 t.3 (omega (arith, t.1))

  pub few : count_leading_zeros 64 digits ≤ 64
  few = let t = leading_top 64 digits some fits in omega (arith, t.1)

  pub kept : digits * 2 ^ count_leading_zeros 64 digits % 2 ^ 64 ≡ digits * 2 ^ count_leading_zeros 64 digits
  kept = mod-eq_of_lt shifted.1

-- A number far above all floats, and one far below them.
module _ (f : Format) (num den word up down : ℕ) {more : Bool} (D : 0 < den) (cut : IsCutTo (num * 2 ^ down) word more (den * 2 ^ up)) where
  pub far_above : 0 < word → down + 2000 < up → IsNearestBits f num den (ones f * hid f)
  far_above W far =
      let ten : 10 ^ 309 ≤ 2 ^ 1027 = lit≤ tt in
      let top : 10 ^ 309 * 2 ^ down ≤ 2 ^ up = le_trans (mul-le-mul_right (2 ^ down) ten)
      (le_trans (le_of_eq (sym (pow-add 2 1027 down))) (pow_mono (omega arith))) in
      let unit : den * (10 ^ 309 * 2 ^ down) ≤ den * 2 ^ up = mul-le-mul_left den top in
      let least : 1 * (den * 2 ^ up) ≤ word * (den * 2 ^ up) = mul-le-mul_right (den * 2 ^ up) W in
      nearest_of_huge f num den D (le_of_mul-le-mul_right {k = 2 ^ down} (omega (arith, unit, least, cut.from)) (pow_pos down))

  pub far_below : word < 2 ^ 64 → up + 2000 < down → IsNearestBits f num den 0
  far_below W far =
      let ten : 10 ^ 343 ≤ 2 ^ 1140 = lit≤ tt in
      let top : 10 ^ 343 * 2 ^ up ≤ 2 ^ down = le_trans (mul-le-mul_right (2 ^ up) ten)
      (le_trans (le_of_eq (sym (pow-add 2 1140 up))) (pow_mono (omega arith))) in
      let number : num * (10 ^ 343 * 2 ^ up) ≤ num * 2 ^ down = mul-le-mul_left num top in
      let most : (word + 1) * (den * 2 ^ up) ≤ 2 ^ 64 * (den * 2 ^ up) = mul-le-mul_right (den * 2 ^ up) (omega arith) in
      nearest_of_tiny f num den D (le_of_mul-le-mul_right {k = 2 ^ up} (omega (arith, number, most, cut.below)) (pow_pos up))

-- The same power of two on both sides does not count.
pub without : {digits : ℕ} {more : Bool} (num den up down both : ℕ) → both ≤ up → both ≤ down → IsCutTo (num * 2 ^ down) digits more (den * 2 ^ up)
    → IsCutTo (num * 2 ^ (down - both)) digits more (den * 2 ^ (up - both))
without {digits = digits} {more = more} num den up down both U D cut =
    let split : (n k : ℕ) → both ≤ k → n * 2 ^ k ≡ n * 2 ^ (k - both) * 2 ^ both =
    λ n k le. ap (λ k. n * 2 ^ k) {x = k} {y = k - both + both} (omega arith) ∙ omega (arith, ap (λ p. n * p) (pow-add 2 (k - both) both)) in
    unscaled (2 ^ both) (pow_pos both) (subst (λ n. IsCutTo n digits more (den * 2 ^ (up - both) * 2 ^ both)) (split num down D)
    (subst (IsCutTo (num * 2 ^ down) digits more) (split den up U) cut))

-- A number of whole digits, by more digits.
pub lifted : (digits p q z : ℕ) → IsCutTo (digits * 2 ^ p * 2 ^ (q + z)) (digits * 2 ^ z) false (2 ^ q * 2 ^ p)
lifted digits p q z =
    let same : digits * 2 ^ p * 2 ^ (q + z) ≡ digits * 2 ^ z * (2 ^ q * 2 ^ p) = ap (λ t. digits * 2 ^ p * t) (pow-add 2 q z) ∙ grind arith in
    record { from = omega (arith, same); below = omega (arith, same, (mul-pos (pow_pos q) (pow_pos p))); some = grind (arith, nat_tests, same) }
