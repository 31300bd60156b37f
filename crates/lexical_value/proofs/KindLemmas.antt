-- The lowest bits of a number, and what literals of the exact kind are worth.
use Rattle.lexical_value.proofs.Common.{Bool, Err, IsNoInteger, IsNotWorth, Kind, Literal, Ok, Record, Result, Some, ValueErrorKind, ap, arith, exact, false}
use Rattle.lexical_value.proofs.Common.{float_worth, format_by, if◌then◌else◌, inl, inr, integer_size, integer_worth, is_binary, is_decimal, is_exact, is_float}
use Rattle.lexical_value.proofs.Common.{is_minus, mantissa, mod-add-div', mod-eq_of_lt, mod-lt, nat_tests, nearest, not, pow-le-pow_right, refl, round, subst}
use Rattle.lexical_value.proofs.Common.{sym, true, width, within, worth, wrapped, ℕ, ◌%◌, ◌*◌, ◌+◌, ◌-◌, ◌/◌, ◌<◌, ◌^◌, ◌||◌, ◌∙◌, ◌≡◌, ◌≤◌, ◌⊎◌}
use Rattle.std.proofs.Math.Pow.{mod-mod-pow}
use Rattle.std.proofs.lemmas.Nat.{pow-add, pow_pos}
use Rattle.std.specs.Float.{Float, Format}
use Rattle.std.specs.Option.{IsSome}
use Rattle.std.specs.Prelude.{[], min, nat_le}
use Rattle.lexical_value.proofs.ValueLemmas.{whole_denominator, whole_numerator}
use Rattle.lexical_literal.specs.declared.kind.IntegerKind.TheVariants as integers
use Rattle.lexical_value.specs.declared.integer.ValueErrorKind.TheVariants as kinds

-- Fewer bits are the lowest of 64 bits.
low : (n w : ℕ) → w ≤ 64 → n % 2 ^ 64 % 2 ^ w ≡ n % 2 ^ w
low n w most = let all : 64 - w + w ≡ 64 = omega (arith, most) in
    subst (λ k. n % 2 ^ k % 2 ^ w ≡ n % 2 ^ w) all (mod-mod-pow n (64 - w) w)

pub lowest_bits : (n bits : ℕ) → n % 2 ^ 64 % 2 ^ width bits ≡ n % 2 ^ width bits
lowest_bits n bits = low n (width bits) (omega arith)

-- A number that wraps and is not too large is worth what its lowest bits are.
pub lowest_worth : (negative : Bool) (n bits : ℕ) → IsSome (worth (integers.Wraps bits) negative n)
    → worth (integers.Wraps bits) negative n ≡ Some (wrapped (width bits) negative (n % 2 ^ width bits))
lowest_worth negative n bits some = let low : n < 2 ^ width bits = grind (arith, nat_tests) in rw (mod-eq_of_lt low) (grind (arith, nat_tests))

powers : (i j : ℕ) → i ≤ j → 2 ^ i ≤ 2 ^ j
powers i j within = pow-le-pow_right two within where
  two : 0 < 2
  two = omega arith

-- A number of fewer bits than a kind has is worth itself.
module _ (negative : Bool) (n bits : ℕ) (low : n < 2 ^ (width bits - 1)) where
  fits : n < 2 ^ width bits
  fits = let more = powers (width bits - 1) (width bits) (omega arith) in omega (arith, low, more)

  wraps : wrapped (width bits) negative n ≡ (negative, n)
  wraps = go negative where
    go : (b : Bool) → wrapped (width bits) b n ≡ (b, n)
    go true = grind (arith, nat_tests)
    go false = grind (arith, nat_tests)

  under : 2 ^ (width bits - 1) ≤ 2 ^ (min bits 128 - 1)
  under = powers (width bits - 1) (min bits 128 - 1) (omega arith)

  pub signed_keeps : worth (integers.Signed bits) negative n ≡ Some (negative, n)
  signed_keeps = go negative where
    go : (b : Bool) → worth (integers.Signed bits) b n ≡ Some (b, n)
    go true = let more = under in grind (arith, nat_tests)
    go false = let more = under in grind (arith, nat_tests)

  pub unsigned_keeps : negative ≡ false → worth (integers.Unsigned bits) negative n ≡ Some (negative, n)
  unsigned_keeps above = subst (λ b. worth (integers.Unsigned bits) b n ≡ Some (b, n)) (sym above) go where
    over : 2 ^ (width bits - 1) ≤ 2 ^ min bits 128
    over = powers (width bits - 1) (min bits 128) (omega arith)

    go : worth (integers.Unsigned bits) false n ≡ Some (false, n)
    go = let more = over in grind (arith, nat_tests)

  pub wraps_keeps : worth (integers.Wraps bits) negative n ≡ Some (negative, n)
  wraps_keeps = let below = fits in let same = wraps in grind (arith, nat_tests)

  pub modulo_keeps : worth (integers.WrapsModulo bits) negative n ≡ Some (negative, n)
  modulo_keeps = ap (λ k. Some (wrapped (width bits) negative k)) (mod-eq_of_lt fits) ∙ ap Some wraps

-- A number that wraps is worth one that differs from it by a multiple of a power of two, and that has so many bits with its sign.
pub wraps_by : (bits : ℕ) (negative : Bool) (n : ℕ) → 1 ≤ bits → let w : Bool × ℕ = wrapped bits negative (n % 2 ^ bits) in
    (((k : ℕ) × (w.0 ≡ negative) × (n ≡ w.1 + k * 2 ^ bits)) ⊎ ((k : ℕ) × (w.0 ≡ not negative) × (n + w.1 ≡ k * 2 ^ bits)))
    × (w.1 ≤ (if w.0 then 2 ^ (bits - 1) else 2 ^ (bits - 1) - 1))
wraps_by bits negative n some = go negative (nat_le (n % 2 ^ bits) (if negative then 2 ^ (bits - 1) else 2 ^ (bits - 1) - 1)) refl where
  twice : 2 ^ bits ≡ 2 * 2 ^ (bits - 1)
  twice = let next : bits ≡ 1 + (bits - 1) = omega (arith, some) in ap (λ k. 2 ^ k) next ∙ pow-add 2 1 (bits - 1)

  parts : n ≡ n % 2 ^ bits + n / 2 ^ bits * 2 ^ bits
  parts = sym (mod-add-div' n (2 ^ bits))

  next : (n / 2 ^ bits + 1) * 2 ^ bits ≡ n / 2 ^ bits * 2 ^ bits + 2 ^ bits
  next = omega arith

  small : n % 2 ^ bits < 2 ^ bits
  small = mod-lt n (pow_pos bits)

  go : (s b : Bool) → nat_le (n % 2 ^ bits) (if s then 2 ^ (bits - 1) else 2 ^ (bits - 1) - 1) ≡ b
      → let w : Bool × ℕ = if b then (s, n % 2 ^ bits) else (not s, 2 ^ bits - n % 2 ^ bits) in
      (((k : ℕ) × (w.0 ≡ s) × (n ≡ w.1 + k * 2 ^ bits)) ⊎ ((k : ℕ) × (w.0 ≡ not s) × (n + w.1 ≡ k * 2 ^ bits)))
      × (w.1 ≤ (if w.0 then 2 ^ (bits - 1) else 2 ^ (bits - 1) - 1))
  go true true low = (inl (n / 2 ^ bits, refl, parts), grind (arith, nat_tests))
  go false true low = (inl (n / 2 ^ bits, refl, parts), grind (arith, nat_tests))
  go true false high = (inr (n / 2 ^ bits + 1, refl, omega (arith, parts, next, small)), let double = twice in let less = small in grind (arith, nat_tests))
  go false false high = (inr (n / 2 ^ bits + 1, refl, omega (arith, parts, next, small)), let double = twice in let less = small in grind (arith, nat_tests))

-- A literal of the exact kind is worth the number that it represents.
pub exact_error : (least largest : ℕ) (r : Record) (l : Literal) (error : ValueErrorKind) → IsNotWorth integers.Exact least largest r.byte l error
    → IsNoInteger least largest r.byte l error
exact_error least largest r l kinds.TooLarge (whole, (sign, above)) = (whole, sign, above)
exact_error least largest r l kinds.TooSmall (whole, (sign, below)) = (whole, sign, below)
exact_error least largest r l _ is = is

pub exact_float : (f : Format) (r : Record) (l : Literal) (x : Float) → float_worth exact f r.byte l ≡ Ok x → x ≡ nearest f r.byte l
exact_float f r l x same = grind arith

pub exact_radix : (f : Format) (r : Record) (l : Literal) (error : ValueErrorKind) → float_worth exact f r.byte l ≡ Err error
    → ((is_decimal r.byte || is_binary r.byte) ≡ false) × (error ≡ kinds.UnsupportedRadix)
exact_radix f r l error same = grind arith

-- A float, or an integer of the exact kind, is worth the nearest float, if that is within the limits.
pub limited_worth : (f : Format) (kind : Kind) (r : Record) (l : Literal) (result : Result Float ValueErrorKind)
    → (is_decimal r.byte || is_binary r.byte) ≡ true → (is_exact kind.integers || is_float l) ≡ true
    → within kind.limits (is_minus l.sign) (mantissa r.byte l) (nearest (format_by kind.floats f) r.byte l) ≡ result → float_worth kind f r.byte l ≡ result
limited_worth f kind r l result known plain same = rw (known, plain) same

-- Without the radixes of floats, there is none.
pub no_worth : (f : Format) (kind : Kind) (r : Record) (l : Literal) → (is_decimal r.byte || is_binary r.byte) ≡ false
    → float_worth kind f r.byte l ≡ Err kinds.UnsupportedRadix
no_worth f kind r l unknown = rw unknown

-- An integer of another kind that is worth itself is worth the nearest float.
pub kept_float : (f : Format) (kind : Kind) (r : Record) (l : Literal) (x : Float) → (is_decimal r.byte || is_binary r.byte) ≡ true
    → is_exact kind.integers ≡ false → is_float l ≡ false → integer_worth kind.integers r.byte l ≡ Some (is_minus l.sign, integer_size r.byte l)
    → l.fraction ≡ [] → l.exponent ≡ [] → x ≡ nearest f r.byte l → float_worth kind f r.byte l ≡ Ok x
kept_float f kind r l x known other whole kept fraction exponent near = rw (known, other, whole, kept)
    (ap Ok ((λ i. round f (is_minus l.sign) (sym (whole_numerator r l fraction exponent) i) (sym (whole_denominator r l fraction exponent) i)) ∙ sym near))

-- It is worth what it is by the exact kind.
pub kept_worth : (f : Format) (kind : Kind) (r : Record) (l : Literal) → is_exact kind.integers ≡ false → is_float l ≡ false
    → integer_worth kind.integers r.byte l ≡ Some (is_minus l.sign, integer_size r.byte l) → l.fraction ≡ [] → l.exponent ≡ []
    → float_worth exact f r.byte l ≡ float_worth kind f r.byte l
kept_worth f kind r l other whole kept fraction exponent = go (is_decimal r.byte || is_binary r.byte) refl where
  go : (known : Bool) → (is_decimal r.byte || is_binary r.byte) ≡ known → float_worth exact f r.byte l ≡ float_worth kind f r.byte l
  go true known = limited_worth f exact r l (Ok (nearest f r.byte l)) known refl refl
      ∙ sym (kept_float f kind r l (nearest f r.byte l) known other whole kept fraction exponent refl)
  go false unknown = no_worth f exact r l unknown ∙ sym (no_worth f kind r l unknown)
