-- What is written of a literal has its value.
use Rattle.lexical_writer.proofs.Common.{Amount, Bool, Grammar, HasNumber, List, Literal, None, Parts, Power, Record, SameFraction, Some, Source, [], and_parts}
use Rattle.lexical_writer.proofs.Common.{ap, arith, at_least, denominator, digits_in, digits_of, effective_exponent_base, effective_exponent_radix, eqb-true}
use Rattle.lexical_writer.proofs.Common.{exponent, false, filter_map-append, given_fraction, given_power, if◌then◌else◌, is_minus, is_present, length, mantissa}
use Rattle.lexical_writer.proofs.Common.{nat_tests, not, number, number_after_append, number_digits_of, number_from_digits, number_from_digits_after, numerator}
use Rattle.lexical_writer.proofs.Common.{one_if, own_amount, pow-suc, pow-zero, raised_down, raised_up, raw, refl, scale, size_of, sym, true, unwrap_or}
use Rattle.lexical_writer.proofs.Common.{values_of, ℕ, ◌&&◌, ◌*◌, ◌++◌, ◌==◌, ◌^◌, ◌||◌, ◌∙◌, ◌∷◌, ◌≡◌, ◌≤◌}
use Rattle.std.specs.Borrow.{Bor}
use Rattle.lexical_literal.specs.Parts.{literal_of}
use Rattle.lexical_util.specs.Layout as layout
use Rattle.lexical_writer.specs.Conversion.{has_power, keeps}
use Rattle.lexical_writer.specs.declared.run.Source.TheVariants as sources
use Rattle.lexical_writer.proofs.DigitLemmas.{enough, least_number}

-- A 0 that stands for absent digits makes the number and the scale larger by the same factor.
pub zero_scaled : (radix n : ℕ) (none : Bool) (digits : List ℕ) → (q : ℕ) × (number_from_digits_after radix n
    (at_least (one_if none) digits) ≡ number_from_digits_after radix n digits * q)
    × (radix ^ length (at_least (one_if none) digits) ≡ radix ^ length digits * q)
zero_scaled radix n true [] = (radix, omega arith, pow-suc radix 0)
zero_scaled radix n false [] = (1, omega arith, omega arith)
zero_scaled radix n none (d ∷ digits) =
    let most : (none : Bool) → one_if none ≤ length (d ∷ digits) = λ none. grind (arith, nat_tests) in
    let same = enough (one_if none) (d ∷ digits) (most none) in
    (1, ap (number_from_digits_after radix n) same ∙ omega arith, ap (λ (ds : List ℕ). radix ^ length ds) same ∙ omega arith)

-- The digits of a source represent its number.
pub size_values : (radix : ℕ) (source : Source) → 2 ≤ radix → size_of radix source ≡ number_from_digits radix (values_of radix source)
size_values radix (sources.Bytes bytes) two = refl
size_values radix (sources.Number n) two = sym (number_digits_of radix n two)
size_values radix (sources.Least n least) two = sym (least_number radix least (digits_of radix n) ∙ number_digits_of radix n two)
size_values radix (sources.Padded padded) two = refl

-- `units_of radix amount` is the number of the digits of an amount, and `places_of radix amount` is how many are behind the point.
abbrev pub units_of : ℕ → Amount → ℕ
units_of radix amount = number_from_digits radix (values_of radix amount.integer ++ values_of radix (given_fraction amount))

abbrev pub places_of : ℕ → Amount → ℕ
places_of radix amount = length (values_of radix (given_fraction amount))

-- `no_power` is an exponent without digits.
abbrev pub no_power : Power
no_power = record { negative = false; source = sources.Number 0 }

-- `pair_of radix power` is the sign and the size of an exponent.
abbrev pub pair_of : ℕ → Power → Bool × ℕ
pair_of radix power = (power.negative, size_of radix power.source)

-- `HasParts r l n places e` holds if the mantissa of `l` is `n` over the radix to the power of `places`, and its exponent is `e`.
pub record HasParts (r : Record) (l : Literal) (n places : ℕ) (e : Bool × ℕ) : Type 0 where
  pub factor : ℕ
  pub mantissa : mantissa r.byte l ≡ n * factor
  pub scale : scale r.byte l ≡ r.byte layout.mantissa_radix ^ places * factor
  pub up : raised_up (is_minus l.exponent_sign) (effective_exponent_base r) (exponent r.byte l) ≡ raised_up e.0 (effective_exponent_base r) e.1
  pub down : raised_down (is_minus l.exponent_sign) (effective_exponent_base r) (exponent r.byte l) ≡ raised_down e.0 (effective_exponent_base r) e.1

-- The parts of a literal that is written for an amount.

pub parts_of : (g : Grammar) (amount : Amount) (l : Literal) → 2 ≤ (raw g.word).byte layout.mantissa_radix → HasNumber g amount l
    → HasParts (raw g.word) l (units_of ((raw g.word).byte layout.mantissa_radix) amount) (places_of ((raw g.word).byte layout.mantissa_radix) amount)
    (pair_of (effective_exponent_radix (raw g.word)) (given_power amount))
parts_of g amount l two has =
    let s = raw g.word in
    let radix = s.byte layout.mantissa_radix in
    let b = effective_exponent_base s in
    let front = values_of radix amount.integer in
    let factor = zero_scaled radix (number_from_digits radix front) has.zero (values_of radix (given_fraction amount)) in
    let integer : number radix l.integer ≡ number_from_digits radix front = has.integer ∙ size_values radix amount.integer two in
    record {
      factor = factor.0;
      mantissa = grind (arith, filter_map-append, number_after_append);
      scale = grind arith;
      up = λ j. raised_up (has.exponent_sign j) b (has.exponent j);
      down = λ j. raised_down (has.exponent_sign j) b (has.exponent j);
    }

-- What has the digits and the exponent of an amount has its value.
pub same_value : (g : Grammar) (amount : Amount) (l : Literal) (num den : ℕ) → 2 ≤ (raw g.word).byte layout.mantissa_radix → HasNumber g amount l
    → (up down : ℕ) → raised_up (given_power amount).negative (effective_exponent_base (raw g.word))
    (size_of (effective_exponent_radix (raw g.word)) (given_power amount).source) ≡ up
    → raised_down (given_power amount).negative (effective_exponent_base (raw g.word))
    (size_of (effective_exponent_radix (raw g.word)) (given_power amount).source) ≡ down
    → (units_of ((raw g.word).byte layout.mantissa_radix) amount * up) * den
    ≡ num * ((raw g.word).byte layout.mantissa_radix ^ places_of ((raw g.word).byte layout.mantissa_radix) amount * down)
    → num * denominator (raw g.word).byte l ≡ numerator (raw g.word).byte l * den
same_value g amount l num den two has up down ups downs worth =
    let p = parts_of g amount l two has in
    (λ j. num * (p.scale j * (p.down ∙ downs) j)) ∙ omega (arith, ap (λ m. m * p.factor) worth) ∙ sym (λ j. (p.mantissa j * (p.up ∙ ups) j) * den)

no_number : (radix : ℕ) (bytes : List ℕ) (a : Bool) → (a || is_present bytes) ≡ false → number radix bytes ≡ 0
no_number radix bytes a none = grind arith

fraction_is : (radix : ℕ) (a : Bool) (bytes : Bor (List ℕ))
    → values_of radix (unwrap_or (if a || is_present bytes.now then Some (sources.Bytes bytes) else None) (sources.Number 0))
    ≡ digits_in radix bytes.now
fraction_is radix a bytes = grind arith

-- The factors by which a number is multiplied and divided, with an exponent and without one.
module _ (r s : Record) (parts : Parts) where
  abbrev e : ℕ
  e = number (effective_exponent_radix r) parts.exponent.now

  abbrev minus : Bool
  minus = is_minus parts.exponent_sign.now

  abbrev own : Power
  own = given_power (own_amount parts)

  pub own_powers : (power : Bool) → has_power parts ≡ power
      → (not power || (effective_exponent_base r == effective_exponent_base s && effective_exponent_radix r == effective_exponent_radix s)) ≡ true
      → (raised_up own.negative (effective_exponent_base s) (size_of (effective_exponent_radix s) own.source) ≡ raised_up minus (effective_exponent_base r) e)
      × (raised_down own.negative (effective_exponent_base s) (size_of (effective_exponent_radix s) own.source) ≡ raised_down minus (effective_exponent_base r) e)
  own_powers power some same = grind (arith, and_parts, eqb-true, no_number, pow-zero)

-- What has the own digits of a literal has its value.
pub same_own : (r : Record) (parts : Parts) (g : Grammar) → keeps r parts g ≡ true → 2 ≤ (raw g.word).byte layout.mantissa_radix
    → (l : Literal) → HasNumber g (own_amount parts) l → SameFraction r (literal_of parts) (raw g.word) l
same_own r parts g keep two l has =
    let s = raw g.word in
    let radix = s.byte layout.mantissa_radix in
    let all = and_parts _ _ keep in
    let same : r.byte layout.mantissa_radix ≡ radix = eqb-true _ _ (and_parts _ _ all.1).0 in
    let powers = own_powers r s parts (has_power parts) refl (grind (arith, and_parts)) in
    record {
      sign = sym has.sign;
      fraction = same_value g (own_amount parts) l (numerator r.byte (literal_of parts)) (denominator r.byte (literal_of parts)) two has _ _
          powers.0 powers.1 (grind (arith, fraction_is, filter_map-append));
    }
