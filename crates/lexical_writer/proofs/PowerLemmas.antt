-- A number times a power, and its digits in a radix and with an exponent base that are powers of the same base.
use Rattle.lexical_writer.proofs.Common.{Bool, Grammar, IsShape, None, Record, Some, Style, all_below_base_digits_of, ap, arith, cases_lt, count_trailing_zeros}
use Rattle.lexical_writer.proofs.Common.{decimals_in, digits_of, div-add-mod', div-div-eq-div-mul, effective_exponent_base, eq-zero-or-pos}
use Rattle.lexical_writer.proofs.Common.{eq_of_mul-eq-mul_right, false, if◌then◌else◌, inl, inr, is_far, is_shown, lacks_options, le_of_mul-le-mul_right}
use Rattle.lexical_writer.proofs.Common.{length, length-digits_of-le, length-digits_of_step, lt-ltb, lt_of_mul-lt-mul_right, max, mod-eq_of_lt, mod-lt}
use Rattle.lexical_writer.proofs.Common.{mul-le-mul_right, mul-lt-mul_of_pos_right, mul-mod_left, mul-pos, nat_le, nat_lt, nat_tests, not, number_digits_of}
use Rattle.lexical_writer.proofs.Common.{one-le-pow, one_if, pow-add, pow-le-pow_right, pow-suc, pow-zero, raw, refl, subst, suc, sym, true, zero, ℕ, ◌%◌, ◌&&◌}
use Rattle.lexical_writer.proofs.Common.{◌*◌, ◌+◌, ◌-◌, ◌/◌, ◌<◌, ◌^◌, ◌||◌, ◌∙◌, ◌≡◌, ◌≤◌, ◌⊎◌}
use Rattle.std.proofs.lemmas.Grind.{div_ceil_times}
use Rattle.std.proofs.lemmas.Int.Digits.{number_lt}
use Rattle.std.proofs.lemmas.Nat.Bits.{bit_at-trailing_zeros}
use Rattle.std.specs.Int.{div_ceil}
use mir.Val.{bool_byte}
use Rattle.core.specs.Int.{w64}
use Rattle.lexical_util.specs.Layout as layout
use Rattle.lexical_writer.specs.declared.form.Powers.{Powers}
use Rattle.lexical_writer.proofs.AmountLemmas.{above, compared, exact_exponent, exact_shape, powers, size, under}
use Rattle.lexical_value.proofs.ScaledLemmas.{pow_of}

raised : (p k b n : ℕ) → p ^ k * (p ^ b) ^ n ≡ p ^ (k + b * n)
raised p k b n = ap (λ q. p ^ k * q) (pow_of p b n) ∙ powers p k (n * b) (k + b * n) (omega arith)

-- The digits are exact where zeros come behind them.
pub moved_exact : (p n k b m low : ℕ) → low ≤ k + b * m
    → n * p ^ ((k + b * m - low) % b) * (p ^ b) ^ ((k + b * m - low) / b) * p ^ low ≡ n * p ^ k * (p ^ b) ^ m
moved_exact p n k b m low least =
    let up = k + b * m - low in
    let parts : up % b + b * (up / b) ≡ up = omega (arith, div-add-mod' up b) in
    let high = raised p (up % b) b (up / b) ∙ ap (λ e. p ^ e) parts in
    omega (arith, ap (λ q. n * q * p ^ low) high, ap (λ q. n * q) (powers p up low (k + b * m) (omega (arith, least))), ap (λ q. n * q) (raised p k b m))

-- A number without its twos is odd.
pub odd : (n : ℕ) → 0 < n → n < 2 ^ 64 → n / 2 ^ (count_trailing_zeros 64 n % 64) % 2 ≡ 1
odd n some small = let t = bit_at-trailing_zeros w64 n some small in ap (λ z. n / 2 ^ z % 2) (mod-eq_of_lt t.0) ∙ t.1

pub few_twos : (n : ℕ) → 0 < n → n < 2 ^ 64 → count_trailing_zeros 64 n < 64
few_twos n some small = (bit_at-trailing_zeros w64 n some small).0

-- A number has so many twos, up to all.
pub without_twos : (n z : ℕ) → 0 < n → n < 2 ^ 64 → z ≤ count_trailing_zeros 64 n → n ≡ n / 2 ^ z * 2 ^ z
without_twos n zero some small most = omega arith
without_twos n (suc z) some small most =
    let bit = (bit_at-trailing_zeros w64 n some small).2 z (omega (arith, most)) in
    let half : n / 2 ^ suc z ≡ n / 2 ^ z / 2 = ap (λ p. n / p) (pow-suc 2 z) ∙ sym (div-div-eq-div-mul n (2 ^ z) 2) in
    omega (
      arith,
      without_twos n z some small (omega (arith, most)),
      ap (λ q. q * 2 ^ z) {x = n / 2 ^ z} {y = n / 2 ^ suc z * 2} (omega (arith, bit, half)),
      ap (λ p. n / 2 ^ suc z * p) (pow-suc 2 z),
    )

-- So many twos move to the power.
pub shifted : (n z a b p q : ℕ) → n ≡ n / 2 ^ z * 2 ^ z → z + a + q ≡ b + p → n * 2 ^ a * 2 ^ q ≡ n / 2 ^ z * 2 ^ b * 2 ^ p
shifted n z a b p q parts sum =
    let left = ap (λ x. x * 2 ^ q) (powers 2 z a (z + a) refl) ∙ powers 2 (z + a) q (b + p) sum in
    omega (arith, ap (λ n. n * 2 ^ a * 2 ^ q) parts, ap (λ x. n / 2 ^ z * x) left, ap (λ x. n / 2 ^ z * x) (powers 2 b p (b + p) refl))

-- A number that does not end with a zero, times a power below the radix, is no multiple of the radix.
pub some_left : (p n u b : ℕ) → 2 ≤ p → 0 < n % p → u < b → 0 < n * p ^ u % p ^ b
some_left p n u b two some less = elim (eq-zero-or-pos (n * p ^ u % p ^ b)) [
  | inl none ↦
      let q = n * p ^ u / p ^ b in
      let rest = p ^ (b - u - 1) in
      let parts : p ^ b ≡ rest * p * p ^ u = sym (powers p (suc (b - u - 1)) u b (omega (arith, less))) ∙ ap (λ x. x * p ^ u) (pow-suc p (b - u - 1)) in
      let multiple : n ≡ q * rest * p = eq_of_mul-eq-mul_right (p ^ u) (one-le-pow u p (omega (arith, two))) n (q * rest * p)
      (omega (arith, div-add-mod' (n * p ^ u) (p ^ b), none, ap (λ x. q * x) parts)) in
      absurd (omega (arith, some, ap (λ n. n % p) multiple ∙ mul-mod_left (q * rest) p))
  | inr more ↦ more
]

-- As many digits are behind the point as are needed, and as are wished.
pub enough : (k b low least q p : ℕ) → 0 < b → q ≡ div_ceil (low - k) b → p ≡ max q least → (low ≤ k + b * p) × (least < p → k + b * p < low + b)
enough k b low least q p some is most = grind (arith, nat_tests, div_ceil_times, mul-le-mul_right)

pub byte_is : (b : Bool) → bool_byte b ≡ (if b then 1 else 0)
byte_is b = grind arith

-- A decimal number that is not 0 has as many digits as the powers of ten are that are not above it.
pub decimal_first : (d power top : ℕ) → top ≡ power + (length (digits_of 10 d) - 1) → 0 < d → (10 ^ top ≤ d * 10 ^ power) × (d * 10 ^ power < 10 ^ suc top)
decimal_first d power top at some = grind (arith, nat_tests, above, under, from, less)
  where
    from : 10 ^ (length (digits_of 10 d) - 1) ≤ d
    from = elim (cases_lt d (10 ^ (length (digits_of 10 d) - 1))) [
      | inl less ↦
          let few = length-digits_of-le 10 (length (digits_of 10 d) - 1) d (omega arith) less in
          absurd (omega (arith, few, length-digits_of_step 10 d (omega arith) some))
      | inr least ↦ least
    ]

    less : d < 10 ^ suc (length (digits_of 10 d) - 1)
    less =
        let below = subst (λ m. m < 10 ^ length (digits_of 10 d)) (number_digits_of 10 d (omega arith))
        (number_lt 10 (digits_of 10 d) (all_below_base_digits_of 10 d (omega arith))) in
        omega (arith, below, pow-le-pow_right {n = 10} (omega arith) {i = length (digits_of 10 d)} {j = suc (length (digits_of 10 d) - 1)} (omega arith))

-- A number is far from 1 if its first digit is.
far_digits : (p n k b top Z : ℕ) → 0 < p → 1 ≤ b → (0 < n → (p ^ top ≤ n * p ^ k) × (n * p ^ k < p ^ suc top)) → (n ≡ 0 → top ≡ Z)
    → (nat_lt (top + 4 * b) Z || nat_le (Z + 16 * b) top)
    ≡ (nat_lt 0 (n * p ^ k) && (nat_lt (n * p ^ k * (p ^ b) ^ 4) (p ^ Z) || nat_le (p ^ Z * (p ^ b) ^ 16) (n * p ^ k)))
far_digits p n k b top Z base some first none = elim (eq-zero-or-pos n) [
  | inl z ↦
      let at = none z in
      let nothing : n * p ^ k ≡ 0 = ap (λ n. n * p ^ k) z ∙ omega arith in
      rw (at, nothing) (grind (arith, nat_tests))
  | inr positive ↦
      let is = first positive in
      let low = (compared p (n * p ^ k) (4 * b) top Z base is.0 is.1).0 in
      let high = (compared p (n * p ^ k) 0 top (Z + 16 * b) base is.0 is.1).1 in
      let large = pow-add p Z (16 * b) ∙ ap (λ q. p ^ Z * q) (sym (pow_of p b 16)) in
      let plain : n * p ^ k * p ^ 0 ≡ n * p ^ k = ap (λ q. n * p ^ k * q) (pow-zero p) ∙ omega arith in
      let place : top + 0 ≡ top = omega arith in
      sym (λ i. lt-ltb 0 (n * p ^ k) (mul-pos positive (one-le-pow k p base)) i
      && ((ap (λ q. nat_lt (n * p ^ k * q) (p ^ Z)) (pow_of p b 4) ∙ low) i
      || (sym (λ j. nat_le (large j) (plain j)) ∙ high ∙ ap (nat_le (Z + 16 * b)) place) i))
]

module _ (g : Grammar) (style : Style) (it : Powers) (radix : (raw g.word).byte layout.mantissa_radix ≡ it.base ^ it.width)
    (base : effective_exponent_base (raw g.word) ≡ it.base ^ it.step) (plain : decimals_in g style.decimals ≡ None) where
  abbrev p : ℕ
  p = it.base

  abbrev x : ℕ
  x = it.number * p ^ it.power

  abbrev far : Bool
  far = nat_lt (it.top + 4 * it.width) it.zero || nat_le (it.zero + 16 * it.width) it.top

  base_some : 0 < p
  base_some = let two = it.bases.0 in omega (arith, two)

  one : (e : ℕ) → 0 < p ^ e
  one e = one-le-pow e p base_some

  some : 0 < effective_exponent_base (raw g.word)
  some = subst (λ b. 0 < b) (sym base) (one it.step)

  far_is : far ≡ is_far (raw g.word) x (p ^ it.zero)
  far_is = far_digits p it.number it.power it.width it.top it.zero base_some it.bases.1 it.first (λ none. (it.none none).1)
      ∙ ap (λ r. nat_lt 0 x && (nat_lt (x * r ^ 4) (p ^ it.zero) || nat_le (p ^ it.zero * r ^ 16) x)) (sym radix)

  -- The exponent of a number by its first digit.
  exponent_low : (E : ℕ) → E ≡ it.top / it.step → 0 < it.number → (p ^ (E * it.step) ≤ x) × (x < p ^ (E * it.step) * p ^ it.step)
  exponent_low E is more =
      let first = it.first more in
      let whole : E * it.step + it.top % it.step ≡ it.top = ap (λ e. e * it.step + it.top % it.step) is ∙ omega (arith, div-add-mod' it.top it.step) in
      let rest = mod-lt it.top it.bases.3 in (
        omega (arith, pow-le-pow_right {n = p} base_some {i = E * it.step} {j = it.top} (omega (arith, whole)), first.0),
        omega (
          arith,
          pow-le-pow_right {n = p} base_some {i = suc it.top} {j = E * it.step + it.step} (omega (arith, whole, rest)),
          first.1,
          powers p (E * it.step) it.step (E * it.step + it.step) refl,
        ),
      )

  -- The shape with digits over a power of the base, where `E - Z` is the exponent.
  pub shown : (U places E Z : ℕ) → E ≡ it.top / it.step → Z ≡ it.zero / it.step → U * p ^ (E * it.step) ≡ x * (p ^ it.width) ^ places
      → (places ≡ 0) ⊎ ((0 ≤ places) × (0 < U % p ^ it.width)) → true ≡ is_shown g style far
      → IsShape g style x (p ^ it.zero) (Some (nat_lt E Z, size E Z)) places U
  shown U places E Z low high value last is =
      exact_shape g style x (p ^ it.zero) U places 0 E Z _ far some (one it.zero) exact refl
      (exact_exponent r U places x (p ^ it.zero) E Z some (one it.zero) exact (elim (eq-zero-or-pos it.number) [
        | inl z ↦
            let none : U ≡ 0 =
            eq_of_mul-eq-mul_right (p ^ (E * it.step)) unit U 0 (value ∙ ap (λ n. n * p ^ it.power * (p ^ it.width) ^ places) z ∙ omega arith) in
            subst (λ u. u < B * R ^ places) (sym none) (mul-pos some (one-le-pow places R (subst (λ r. 0 < r) (sym radix) (one it.width))))
        | inr more ↦ rw (base, radix) (lt_of_mul-lt-mul_right (p ^ (E * it.step)) (omega (
          arith,
          value,
          mul-lt-mul_of_pos_right (exponent_low E low more).1 (one-le-pow places (p ^ it.width) (one it.width)),
        )))
      ]) (λ more. rw radix (le_of_mul-le-mul_right {k = p ^ (E * it.step)}
      (omega (arith, value, mul-le-mul_right ((p ^ it.width) ^ places) (exponent_low E low (positive more)).0)) unit))
      (λ none. elim (eq-zero-or-pos it.number) [
        | inl z ↦ low ∙ ap (λ t. t / it.step) (it.none z).1 ∙ sym high
        | inr more ↦ absurd (omega (arith, none, mul-pos more (one it.power)))
      ]))
      plain is far_is refl (elim last [ inl none ↦ inl none | inr more ↦ inr (more.0, rw radix more.1) ])
    where
      r : Record
      r = raw g.word

      R : ℕ
      R = r.byte layout.mantissa_radix

      B : ℕ
      B = effective_exponent_base r

      unit : 0 < p ^ (E * it.step)
      unit = one (E * it.step)

      exact : U * (p ^ it.zero * B ^ E) ≡ x * R ^ places * B ^ Z
      exact =
          let up : B ^ E ≡ p ^ (E * it.step) = ap (λ b. b ^ E) base ∙ pow_of p it.step E in
          let down : B ^ Z ≡ p ^ it.zero = ap (λ b. b ^ Z) base ∙ pow_of p it.step Z
          ∙ ap (λ e. p ^ e) (ap (λ z. z * it.step) high ∙ it.bases.5) in
          omega (
            arith,
            ap (λ q. U * (p ^ it.zero * q)) up,
            ap (λ v. v * p ^ it.zero) value,
            ap (λ R. x * R ^ places * B ^ Z) radix,
            ap (λ q. x * (p ^ it.width) ^ places * q) down,
          )

      positive : 0 < x → 0 < it.number
      positive more = elim (eq-zero-or-pos it.number) [ inl z ↦ absurd (omega (arith, more, ap (λ n. n * p ^ it.power) z)) | inr more ↦ more ]

  -- The shape without an exponent.
  pub unshown : (least U places : ℕ) → U * p ^ it.zero ≡ x * (p ^ it.width) ^ places → least ≡ one_if (not (lacks_options g.options))
      → (places ≡ least) ⊎ ((least ≤ places) × (0 < U % p ^ it.width)) → false ≡ is_shown g style far
      → IsShape g style x (p ^ it.zero) None places U
  unshown least U places value least_is last is =
      exact_shape g style x (p ^ it.zero) U places least 0 0 None far some (one it.zero)
      (omega (
        arith,
        value,
        ap (λ q. U * (p ^ it.zero * q)) (pow-zero (effective_exponent_base (raw g.word))),
        ap (λ R. x * R ^ places) radix,
        ap (λ q. x * (raw g.word).byte layout.mantissa_radix ^ places * q) (pow-zero (effective_exponent_base (raw g.word))),
      )) refl tt plain is far_is least_is (elim last [ inl same ↦ inl same | inr more ↦ inr (more.0, rw radix more.1) ])
