-- Digits with a point, zeros around them and an exponent have the value of the literal that is written.
use Rattle.lexical_writer.proofs.Common.{Amount, Bool, Float, Grammar, HasNumber, IfOk, IsCutTo, IsFinite, IsFloatOf, IsLaidOut, IsRounded, IsShape, IsWorth}
use Rattle.lexical_writer.proofs.Common.{Layout, List, Literal, None, Option, Record, Result, Some, Style, WriteError, [], ap, append_assoc, arith, cond}
use Rattle.lexical_writer.proofs.Common.{decimals_in, denominator, digits_in, div-add-mod', drop, dvd-mul_right, effective_exponent_base}
use Rattle.lexical_writer.proofs.Common.{effective_exponent_radix, eq-eqb, eq-zero-or-pos, eq_of_mul-eq-mul_right, exponent, false, false≢true}
use Rattle.lexical_writer.proofs.Common.{filter_map-append, first_error, float_error, has, if◌then◌else◌, inl, inr, is_binary, is_decimal, is_far, is_minus}
use Rattle.lexical_writer.proofs.Common.{is_power_of_two, is_present, is_shown, is_some, is_whole, lacks_options, laid_out, length, length-append, literal_of}
use Rattle.lexical_writer.proofs.Common.{low, lt-leb, mantissa, mod-eq_of_lt, mod-lt, mod-mod_of_dvd, mul-le-mul_right, mul-mod_left, mul-pos, nat_lt}
use Rattle.lexical_writer.proofs.Common.{nat_tests, ne_eqb, nearest, not, number_after_append, number_from_digits, numerator, one-le-pow, one_if, pow-add}
use Rattle.lexical_writer.proofs.Common.{pow-le-pow_right, pow-zero, prec, raised_down, raised_up, raw, refl, refusal, replicate, round, round_same, rounded}
use Rattle.lexical_writer.proofs.Common.{scale, subst, suc, sym, take, take-append-drop, true, units_in, unwrap_or, with_minus, zero, ℕ, ◌%◌, ◌&&◌, ◌*◌, ◌++◌}
use Rattle.lexical_writer.proofs.Common.{◌+◌, ◌-◌, ◌/◌, ◌<◌, ◌==◌, ◌^◌, ◌||◌, ◌∙◌, ◌∷◌, ◌≡◌, ◌≢◌, ◌≤◌}
use Rattle.std.proofs.Math.Nat.{div-eq_of_lt-le, div-lt_iff_lt-mul, mod-eq-sub-div-mul}
use lib.Ieee.{Format, down, fin, hid, inf, is_nan, nan, neg, odd, of_bits, of_fields, ones, top, up}
use lib.Ieee.Exact.{HasValue, odd_sign}
use lib.Dec.{eqb, leb}
use Rattle.lexical_value.proofs.ScaledLemmas.{some_denominator}
use Rattle.lexical_util.specs.Layout as layout
use Rattle.lexical_util.specs.Record.{bytes_of}
use Rattle.lexical_literal.specs.declared.syntax.Condition.TheVariants as conditions
use Rattle.std.specs.Prelude.{option_map}
use Rattle.core.proofs.dec2flt.Patterns.{neg-round}
use Rattle.lexical_writer.specs.declared.layout.WriteError.TheVariants as errors
use Rattle.lexical_writer.proofs.ConversionLemmas.{HasParts, pair_of, parts_of, places_of, units_of}
use Rattle.lexical_writer.proofs.DigitLemmas.{one_less, zeros_number}
use Rattle.lexical_writer.proofs.PlainLemmas.{zeros_after}

-- Digits behind others, with zeros behind them.
pub behind : (radix : ℕ) (xs ys : List ℕ) (after : ℕ)
    → number_from_digits radix (xs ++ (ys ++ replicate after 0)) ≡ number_from_digits radix (xs ++ ys) * radix ^ after
behind radix xs ys after = grind (arith, nat_tests, append_assoc, number_after_append, zeros_after)

-- Digits between zeros, with more zeros behind a point.
pub around : (radix before : ℕ) (digits : List ℕ) (after places : ℕ)
    → number_from_digits radix ((replicate before 0 ++ (digits ++ replicate after 0)) ++ replicate places 0)
    ≡ number_from_digits radix digits * radix ^ (after + places)
around radix before digits after places =
    let n = number_from_digits radix digits in
    behind radix [] (replicate before 0 ++ (digits ++ replicate after 0)) places
    ∙ ap (λ m. m * radix ^ places) (zeros_number radix before (digits ++ replicate after 0) ∙ behind radix [] digits after)
    ∙ omega (arith, ap (λ p. n * p) (pow-add radix after places))

-- The digits of bytes are those before an index, and those from there on.
pub cut_digits : (radix k : ℕ) (bytes : List ℕ) → digits_in radix (take k bytes) ++ digits_in radix (drop k bytes) ≡ digits_in radix bytes
cut_digits radix k bytes = sym (filter_map-append _ (take k bytes) (drop k bytes)) ∙ ap (digits_in radix) (take-append-drop k bytes)

fewer : (radix : ℕ) (bytes : List ℕ) → length (digits_in radix bytes) ≤ length bytes
fewer radix [] = omega arith
fewer radix (byte ∷ bytes) = grind (arith, fewer radix bytes)

-- If all bytes are digits, so are those up to an index, and those from there on.
pub all_digits : (radix k : ℕ) (bytes : List ℕ) → length (digits_in radix bytes) ≡ length bytes
    → (length (digits_in radix (take k bytes)) ≡ length (take k bytes)) × (length (digits_in radix (drop k bytes)) ≡ length (drop k bytes))
all_digits radix k bytes all =
    let digits = sym (ap length (cut_digits radix k bytes)) ∙ length-append (digits_in radix (take k bytes)) (digits_in radix (drop k bytes)) in
    let whole = sym (ap length (take-append-drop k bytes)) ∙ length-append (take k bytes) (drop k bytes) in
    grind (arith, fewer radix (take k bytes), fewer radix (drop k bytes))

pub present : (digits : List ℕ) → 0 < length digits → is_present digits ≡ true
present [] some = absurd (omega (arith, some))
present (digit ∷ digits) some = refl

pub twos : (i j : ℕ) → i ≤ j → 2 ^ i ≤ 2 ^ j
twos i j less = pow-le-pow_right (omega arith) less

-- A number that is cut to halves of its units is rounded to units.
pub halved : (num den q : ℕ) (more : Bool) → IsCutTo (num * 2) q more den
    → q / 2 + (if nat_lt 2 (q % 4) || (q % 4 == 1 && more) then 1 else 0) ≡ rounded num den
halved num den q more cut = grind (arith, nat_tests, eq-zero-or-pos, rest, times, whole, from)
  where
    times : q * den ≡ q / 2 * den * 2 + q % 2 * den
    times = ap (λ k. k * den) {x = q} {y = q / 2 * 2 + q % 2} (omega arith) ∙ omega arith

    most : q % 2 * den ≤ den
    most = omega (arith, mul-le-mul_right den (let rest : q % 2 ≤ 1 = omega arith in rest))

    from : q * den ≤ num * 2
    from = cut.from

    below : num * 2 < (q + 1) * den
    below = cut.below

    whole : num / den ≡ q / 2
    whole = div-eq_of_lt-le {k = q / 2} den {m = num} (omega (arith, times, from)) (omega (arith, times, most, below))

    rest : num % den ≡ num - q / 2 * den
    rest = mod-eq-sub-div-mul num den ∙ ap (λ k. num - k * den) whole

-- Radixes in which floats are written are at least 2, and their bases are not 0.
some_radixes : (r : Record) → (is_decimal r.byte || is_binary r.byte) ≡ true → (2 ≤ r.byte layout.mantissa_radix) × (0 < effective_exponent_base r)
some_radixes r is = grind (arith, nat_tests)

-- Other radixes than 10 are powers of two, as their bases are.
pub binary_radixes : (r : Record) → (is_decimal r.byte || is_binary r.byte) ≡ true → r.byte layout.mantissa_radix ≢ 10
    → (is_power_of_two (r.byte layout.mantissa_radix) ≡ true) × (is_power_of_two (effective_exponent_base r) ≡ true)
binary_radixes r is other = (grind (arith, nat_tests, is, other), grind (arith, nat_tests, is, other))

-- The base of radix 10 is 10.
pub base_ten : (r : Record) → (is_decimal r.byte || is_binary r.byte) ≡ true → r.byte layout.mantissa_radix ≡ 10 → effective_exponent_base r ≡ 10
base_ten r is ten = grind (arith, nat_tests, is, ten)

pub some_down : (negative : Bool) (b e : ℕ) → 0 < b → 0 < raised_down negative b e
some_down negative b e some = grind (arith, one-le-pow)

-- `exponent_of r amount` is the sign and the size of the exponent, if there is one.
abbrev pub exponent_of : Record → Amount → Option (Bool × ℕ)
exponent_of r amount = option_map (pair_of (effective_exponent_radix r)) amount.exponent

-- The parts of a literal that is written for an amount, with no exponent as 0.
shape_parts : (g : Grammar) (amount : Amount) (l : Literal) → 2 ≤ (raw g.word).byte layout.mantissa_radix → HasNumber g amount l
    → HasParts (raw g.word) l (units_of ((raw g.word).byte layout.mantissa_radix) amount) (places_of ((raw g.word).byte layout.mantissa_radix) amount)
    (unwrap_or (exponent_of (raw g.word) amount) (false, 0))
shape_parts g amount l two has = grind (arith, parts_of)

-- A literal that is written for a float that is not rounded is read as this float.
pub amount_nearest : (f : Format) (x : Float) (g : Grammar) (style : Style) (l : Literal) → (is_decimal (raw g.word).byte || is_binary (raw g.word).byte) ≡ true
    → decimals_in g style.decimals ≡ None → (it : IsFloatOf f x g style l) → HasNumber g it.amount l → x ≡ nearest f (raw g.word).byte l
amount_nearest f x g style l supported plain it has =
    let r = raw g.word in
    let B = effective_exponent_base r in
    let R = r.byte layout.mantissa_radix in
    let e = unwrap_or (exponent_of r it.amount) (false, 0) in
    let radixes = some_radixes r supported in
    let p = shape_parts g it.amount l radixes.0 has in
    let above : numerator r.byte l ≡ units_of R it.amount * p.factor * raised_up e.0 B e.1 = (λ i. p.mantissa i * p.up i) in
    let below : denominator r.byte l ≡ R ^ places_of R it.amount * p.factor * raised_down e.0 B e.1 = (λ i. p.scale i * p.down i) in
    let some = some_denominator r l (let two = radixes.0 in omega (arith, two)) radixes.1 in
    it.worth.near plain
    ∙ round_same f it.amount.negative it.num it.den (numerator r.byte l) (denominator r.byte l) it.worth.some some
    (omega (arith, ap (λ n. it.num * n) below, ap (λ n. n * p.factor) (it.shape.exact plain), ap (λ n. n * it.den) above))
    ∙ ap (λ sign. round f sign (numerator r.byte l) (denominator r.byte l)) (sym has.sign)

-- A literal that is written for a float that is rounded is rounded.
pub amount_rounded : (f : Format) (x : Float) (g : Grammar) (style : Style) (n : ℕ) (l : Literal)
    → (is_decimal (raw g.word).byte || is_binary (raw g.word).byte) ≡ true → decimals_in g style.decimals ≡ Some n → (it : IsFloatOf f x g style l)
    → HasNumber g it.amount l → IsRounded x (raw g.word) l n
amount_rounded f x g style n l supported wished it has =
    let r = raw g.word in
    let R = r.byte layout.mantissa_radix in
    let p = shape_parts g it.amount l (some_radixes r supported).0 has in
    let unit = R ^ places_of R it.amount in
    let places : places_of R it.amount ≡ n = elim it.shape.last [
      | inl same ↦ same ∙ ap (λ o. unwrap_or o (one_if (not (is_some (exponent_of r it.amount) || lacks_options g.options)))) wished
      | inr other ↦ absurd (false≢true (sym (ap is_some other.0) ∙ ap is_some wished))
    ] in
    let rounded_to : mantissa r.byte l * unit
    ≡ units_in r it.num it.den (places_of R it.amount) (is_minus l.exponent_sign) (exponent r.byte l) * scale r.byte l =
    omega (arith, ap (λ m. m * unit) p.mantissa, ap (λ m. m * (unit * p.factor)) it.shape.rounded)
    ∙ sym (λ j. rounded (it.num * unit * p.down j) (it.den * p.up j) * p.scale j) in
    record {
      num = it.num;
      den = it.den;
      some = it.worth.some;
      value = subst (λ sign. HasValue x sign it.num it.den) (sym has.sign) (elim it.worth.exact [
        | inl value ↦ value
        | inr other ↦ absurd (false≢true (sym (ap is_some other.0) ∙ ap is_some wished))
      ]);
      decimals = subst (λ k. mantissa r.byte l * R ^ k
          ≡ units_in r it.num it.den k (is_minus l.exponent_sign) (exponent r.byte l) * scale r.byte l) places rounded_to;
    }

-- The error of a number that is finite, and of one that is not.
pub error_of : (g : Grammar) (x : Float) (negative : Bool) (num den : ℕ) → HasValue x negative num den
    → float_error g x ≡ first_error (negative && has g.conditions conditions.NegativeSign) (lacks_options g.options && not (is_whole x))
    (not (is_decimal (bytes_of g.word) || is_binary (bytes_of g.word))) errors.Radix
error_of g x negative num den value = grind arith

pub special_error : (g : Grammar) (x : Float) → ((negative : Bool) → IsFinite x negative → ⊥) → float_error g x ≡ Some errors.Special
special_error g nan none = refl
special_error g (inf t) none = refl
special_error g (fin t m e) none = absurd (none t (m * up e, down e, (refl, refl)))

-- What follows from what a layout is, and from the number that it has.
pub if_numbered : (g : Grammar) (style : Style) (amount : Amount) (P : Layout → Type 0) (result : Result Layout WriteError)
    → IsLaidOut g style amount result → IfOk result (λ layout. HasNumber g amount (literal_of layout))
    → ((layout : Layout) → literal_of layout ≡ laid_out g style amount → HasNumber g amount (literal_of layout) → P layout) → IfOk result P
if_numbered g style amount P result is has follows = grind arith

-- The float with some bits is finite if those of its size are below infinity, and otherwise has no value.
at_field : (f : Format) (s : Bool) (x t : ℕ) (test : Bool) → eqb (suc x) (ones f) ≡ test
    → of_fields f s (suc x) t ≡ cond test (cond (eqb t 0) (inf s) nan) (odd (prec f) s (hid f + t) x (low f))
unfolding of_fields
at_field f s x t test is = cc

pub finite : (f : Format) (b : ℕ) → b % top f < ones f * hid f → IsFinite (of_bits f b) (leb (top f) b)
unfolding of_bits of_fields
finite f b less = grind (arith, go, div-lt_iff_lt-mul, one-le-pow)
  where
    go : (field : ℕ) → field < ones f → IsFinite (of_fields f (leb (top f) b) field (b % hid f)) (leb (top f) b)
    go zero below = (b % hid f * 2 ^ 0, 2 ^ low f, odd_sign (prec f) (leb (top f) b) (b % hid f) 0 (low f))
    go (suc k) below =
        subst (λ x. IsFinite x (leb (top f) b)) (sym (at_field f _ k (b % hid f) false (ne_eqb (suc k) (ones f) (λ is. omega (arith, is, below)))))
        ((hid f + b % hid f) * 2 ^ k, 2 ^ low f, odd_sign (prec f) (leb (top f) b) (hid f + b % hid f) k (low f))

pub special : (f : Format) (b : ℕ) → ones f * hid f ≤ b % top f → (negative : Bool) → IsFinite (of_bits f b) negative → ⊥
unfolding of_bits
special f b most negative is = go (b % top f / hid f) field_is is
  where
    some : 0 < hid f
    some = one-le-pow (prec f - 1) 2 (omega arith)

    field_is : b % top f / hid f ≡ ones f
    field_is = div-eq_of_lt-le {k = ones f} (hid f) {m = b % top f} most (let less = mod-lt b {m = top f} (mul-pos some (omega arith)) in omega (arith, less))

    none : (t : Bool) → IsFinite (cond t (inf (leb (top f) b)) nan) negative → ⊥
    none true it = it.2
    none false it = it.2

    go : (field : ℕ) → field ≡ ones f → IsFinite (of_fields f (leb (top f) b) field (b % hid f)) negative → ⊥
    go zero same it = absurd (omega (arith, same))
    go (suc k) same it = none (eqb (b % hid f) 0) (subst (λ x. IsFinite x negative) (at_field f _ k (b % hid f) true (eq-eqb (suc k) (ones f) same)) it)

pub not_number : (x : Float) → is_nan x ≡ true → (negative : Bool) → IsFinite x negative → ⊥
unfolding is_nan
not_number x is negative it = grind arith

-- The float with some bits is that of its size, with its sign.
pub of_sign : (f : Format) (b : ℕ) → of_bits f b ≡ with_minus (leb (top f) b) (of_bits f (b % top f))
unfolding of_bits of_fields odd neg
of_sign f b = signed (leb (top f) b) (b % top f / hid f) (b % hid f) ∙ sym (ap (with_minus (leb (top f) b)) size)
  where
    small : b % top f < top f
    small = mod-lt b {m = top f} (mul-pos (one-le-pow (prec f - 1) 2 (omega arith)) (omega arith))

    size : of_bits f (b % top f) ≡ of_fields f false (b % top f / hid f) (b % hid f)
    size = λ i. of_fields f (lt-leb (top f) (b % top f) small i) (mod-eq_of_lt small i / hid f)
        (mod-mod_of_dvd (hid f) b (dvd-mul_right (hid f) (suc (ones f))) i)

    minus : (x t : ℕ) → of_fields f true x t ≡ neg (of_fields f false x t)
    minus zero zero = refl
    minus zero (suc t) = refl
    minus (suc x) t = go (eqb (suc x) (ones f)) (eqb t 0) (hid f + t)
      where
        go : (last none : Bool) (q : ℕ) → cond last (cond none (inf true) nan) (odd (prec f) true q x (low f))
            ≡ neg (cond last (cond none (inf false) nan) (odd (prec f) false q x (low f)))
        go true true q = refl
        go true false q = refl
        go false none zero = refl
        go false none (suc q) = refl

    signed : (s : Bool) (x t : ℕ) → of_fields f s x t ≡ with_minus s (of_fields f false x t)
    signed true x t = minus x t
    signed false x t = refl

-- What holds of a float without its sign holds with it.
pub minus_value : (x : Float) (s : Bool) (num den : ℕ) → HasValue x false num den → HasValue (with_minus s x) s num den
unfolding neg
minus_value x s num den value = grind arith

pub minus_whole : (x : Float) (s : Bool) → is_whole (with_minus s x) ≡ is_whole x
unfolding neg
minus_whole x s = grind arith

pub minus_worth : (f : Format) (x : Float) (g : Grammar) (style : Style) (s : Bool) (num den : ℕ) → IsWorth f x g style false num den
    → IsWorth f (with_minus s x) g style s num den
minus_worth f x g style s num den it = grind (arith, neg-round, minus_value, minus_whole)

-- A float that is not refused has no sign, no fraction and no exponent that is refused.
pub not_refused : (g : Grammar) (style : Style) (amount : Amount) (fraction last : Bool) (num den places units : ℕ) (exponent : Option (Bool × ℕ))
    → first_error (amount.negative && has g.conditions conditions.NegativeSign) (lacks_options g.options && fraction) last errors.Radix ≡ None
    → (fraction ≡ false → num % den ≡ 0) → 0 < den → IsShape g style num den exponent places units → is_some amount.fraction ≡ nat_lt 0 places
    → is_some amount.exponent ≡ is_some exponent → refusal g amount ≡ None
not_refused g style amount fraction last num den places units exponent none whole some shape has_fraction has_power = grind (arith, refused, no_places)
  where
    R : ℕ
    R = (raw g.word).byte layout.mantissa_radix

    B : ℕ
    B = effective_exponent_base (raw g.word)

    refused : (sign fraction last lacks forbidden point power shown : Bool) (places : ℕ) (other : Bool)
        → first_error sign (lacks && fraction) last errors.Radix ≡ None → point ≡ nat_lt 0 places → power ≡ shown
        → shown ≡ (not (lacks || forbidden) && other) → (lacks ≡ true → places ≡ 0)
        → first_error sign (lacks && point) ((lacks || forbidden) && power) errors.Radix ≡ None
    refused sign fraction last lacks forbidden point power shown places other none is same allows few = grind (arith, nat_tests)

    unshown : (exponent : Option (Bool × ℕ)) → lacks_options g.options ≡ true → is_some exponent ≡ is_shown g style (is_far (raw g.word) num den)
        → exponent ≡ None
    unshown None lacks is = refl
    unshown (Some e) lacks is = absurd (let shown = is in grind arith)

    no_places : lacks_options g.options ≡ true → places ≡ 0
    no_places integers =
        let none_shown = unshown exponent integers shape.shown in
        let no_fraction : fraction ≡ false = grind (arith, none) in
        elim shape.last [
          | inl same ↦ same ∙ (λ i. unwrap_or (if integers i || not (R == 10) then None else style.decimals) (one_if (not (is_some (none_shown i) || integers i))))
          | inr other ↦
              let n = num / den in
              let number : num ≡ n * den = omega (arith, div-add-mod' num den, whole no_fraction) in
              let exact : units * (den * B ^ 0) ≡ num * R ^ places * 1 =
              subst (λ (o : Option (Bool × ℕ)). let e = unwrap_or o (false, 0) in
              units * (den * raised_up e.0 B e.1) ≡ num * R ^ places * raised_down e.0 B e.1) none_shown (shape.exact other.0) in
              let value : units ≡ n * R ^ places = eq_of_mul-eq-mul_right den some units (n * R ^ places)
              (omega (
                arith,
                exact,
                ap (λ m. m * R ^ places) number,
                ap (λ p. units * (den * p)) (pow-zero B),
              )) in
              elim (eq-zero-or-pos places) [
                | inl none ↦ none
                | inr more ↦
                    let last : n * R ^ places ≡ n * R ^ (places - 1) * R = omega (arith, ap (λ p. n * p) (one_less R places more)) in
                    let rest : units % R ≡ 0 = ap (λ u. u % R) (value ∙ last) ∙ mul-mod_left (n * R ^ (places - 1)) R in
                    absurd (omega (arith, other.2, rest))
              ]
        ]
