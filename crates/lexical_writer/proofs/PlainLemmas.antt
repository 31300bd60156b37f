-- An amount without an exponent has the value of the literal.
use Rattle.lexical_writer.proofs.Common.{Amount, Bool, Grammar, HasNumber, HasValue, IfOk, IsSyntax, Literal, None, Parts, Record, SameFraction, Some, [], ap}
use Rattle.lexical_writer.proofs.Common.{append-nil, arith, at_least, denominator, digits_of, div-add-mod, eq-zero-or-pos, if◌then◌else◌, is_minus}
use Rattle.lexical_writer.proofs.Common.{lacks_options, length, length-digits_of-le, mod-lt, nat_tests, not, number, number_after_append, number_digits_of}
use Rattle.lexical_writer.proofs.Common.{number_from_digits, number_from_digits_after, number_of_size, numerator, one-le-pow, pow-suc, pow-zero, power, raw}
use Rattle.lexical_writer.proofs.Common.{refl, replicate, suc, sym, with_sign, zero, ℕ, ℤ, ◌%◌, ◌*◌, ◌++◌, ◌+◌, ◌/◌, ◌==◌, ◌^◌, ◌||◌, ◌∙◌, ◌≡◌, ◌≤◌}
use Rattle.lexical_literal.specs.Parts.{literal_of}
use Rattle.lexical_util.specs.Layout as layout
use Rattle.lexical_util.specs.declared.format_flags.Part.TheVariants as part
use Rattle.lexical_writer.specs.Conversion.{IsFewest, by_units, most_places}
use Rattle.lexical_writer.specs.declared.run.Source.TheVariants as sources
use Rattle.lexical_writer.specs.declared.units.Units.{Units}
use Rattle.lexical_writer.specs.declared.units.Units.TheVariants as found
use Rattle.lexical_value.proofs.ValueLemmas.{whole_denominator, whole_numerator}
use Rattle.lexical_writer.proofs.ConversionLemmas.{places_of, same_value, units_of}
use Rattle.lexical_writer.proofs.LiteralLemmas.{radixes}
use Rattle.lexical_writer.proofs.DigitLemmas.{after_is, least_length, least_number}

-- Zeros behind digits.
pub zeros_after : (radix n k : ℕ) → number_from_digits_after radix n (replicate k 0) ≡ n * radix ^ k
zeros_after radix n zero = let one = pow-zero radix in sym (ap (λ p. n * p) one ∙ omega arith)
zeros_after radix n (suc k) =
    ap (λ m. number_from_digits_after radix m (replicate k 0)) {x = n * radix + 0} {y = n * radix} (omega arith) ∙ zeros_after radix (n * radix) k
    ∙ omega (arith, ap (λ p. n * p) (pow-suc radix k))

-- `IsWorth radix amount num den` holds if the digits of `amount` in `radix` represent `num` over `den`.
abbrev pub IsWorth : ℕ → Amount → ℕ → ℕ → Type 0
IsWorth radix amount num den = units_of radix amount * den ≡ num * radix ^ places_of radix amount

-- What has the digits of an amount without an exponent has its worth.
pub same_worth : (g : Grammar) (amount : Amount) (up down : ℕ) → IsWorth ((raw g.word).byte layout.mantissa_radix) amount up down
    → amount.exponent ≡ None → 2 ≤ (raw g.word).byte layout.mantissa_radix → (l : Literal) → HasNumber g amount l
    → up * denominator (raw g.word).byte l ≡ numerator (raw g.word).byte l * down
same_worth g amount up down worth none two l has =
    same_value g amount l up down two has 1 1 (grind (arith, pow-zero)) (grind arith) (omega arith ∙ worth ∙ omega arith)

-- A whole number over 1, and over what it is divided by.
number_worth : (radix : ℕ) (negative : Bool) (n num den : ℕ) → 2 ≤ radix → n * den ≡ num → IsWorth radix (number_of_size negative n) num den
number_worth radix negative n num den two is = grind (arith, append-nil, number_digits_of, pow-zero)

-- A literal that has the number of an integer has its value.
pub has_value : (g : Grammar) (negative : Bool) (n : ℕ) (z : ℤ) → with_sign negative n ≡ z → IsSyntax g → (l : Literal)
    → HasNumber g (number_of_size negative n) l → HasValue (raw g.word) l z
has_value g negative n z is lawful l has =
    let two = (radixes g.word lawful.lawful part.Integer).0 in
    record {
      size = n;
      sign = sym is ∙ ap (λ sign. with_sign sign n) (sym has.sign);
      fraction = same_worth g _ n 1 (number_worth _ negative n n 1 two (omega arith)) refl two l has ∙ omega arith;
    }

-- What has the digits of an amount without an exponent, which is worth a literal, has the value of the literal.
same_amount : (r : Record) (parts : Parts) (g : Grammar) (amount : Amount) → amount.negative ≡ is_minus parts.sign.now
    → IsWorth ((raw g.word).byte layout.mantissa_radix) amount (numerator r.byte (literal_of parts)) (denominator r.byte (literal_of parts))
    → amount.exponent ≡ None → IsSyntax g → (l : Literal) → HasNumber g amount l → SameFraction r (literal_of parts) (raw g.word) l
same_amount r parts g amount negative worth none lawful l has = record {
  sign = sym (has.sign ∙ negative);
  fraction = same_worth g amount _ _ worth none (radixes g.word lawful.lawful part.Integer).0 l has;
}

-- A literal without a fraction and an exponent is worth its integer digits.
pub integer_value : (r : Record) (parts : Parts) (g : Grammar) → parts.fraction.now ≡ [] → parts.exponent.now ≡ [] → IsSyntax g → (l : Literal)
    → HasNumber g (number_of_size (is_minus parts.sign.now) (number (r.byte layout.mantissa_radix) parts.integer.now)) l
    → SameFraction r (literal_of parts) (raw g.word) l
integer_value r parts g fraction exponent lawful l has =
    let n = number (r.byte layout.mantissa_radix) parts.integer.now in
    same_amount r parts g _ refl (number_worth _ (is_minus parts.sign.now) n _ _ (radixes g.word lawful.lawful part.Integer).0
    (ap (λ den. n * den) (whole_denominator r (literal_of parts) fraction exponent) ∙ omega arith
    ∙ sym (whole_numerator r (literal_of parts) fraction exponent))) refl lawful l has

-- Units of the last of so many digits behind the point, split at the point, are worth what they are.
split_worth : (radix places units num den : ℕ) → 2 ≤ radix → units * den ≡ num * 10 ^ places → radix ^ places ≡ 10 ^ places
    → let fraction = at_least places (digits_of radix (units % 10 ^ places)) in
    number_from_digits radix (digits_of radix (units / 10 ^ places) ++ fraction) * den ≡ num * radix ^ length fraction
split_worth radix places units num den two is power =
    grind (arith, number_digits_of, least_number, mod-lt, one-le-pow, least_length, length-digits_of-le, div-add-mod, number_after_append, after_is)

-- What is known of a float is an amount with its value.
pub units_value : (r : Record) (parts : Parts) (g : Grammar) (places : ℕ) (it : Units) → IsFewest r (literal_of parts) (most_places g) places it
    → IfOk (by_units (is_minus parts.sign.now) (lacks_options g.options) places it) (λ amount. (l : Literal) → IsSyntax g → HasNumber g amount l
    → SameFraction r (literal_of parts) (raw g.word) l)
units_value r parts g places found.Broken few = tt
units_value r parts g places found.Unknown few = tt
units_value r parts g places (found.Whole units) few = λ l lawful has.
    let known = few.known (λ same. cc) in
    let num = numerator r.byte (literal_of parts) in
    let den = denominator r.byte (literal_of parts) in
    same_amount r parts g _ refl (go num den (lacks_options g.options) known.0 (split_worth radix places units num den
    (radixes g.word lawful.lawful part.Integer).0 known.1 (unit (lacks_options g.options) known.0))) refl lawful l has
  where
    radix : ℕ
    radix = (raw g.word).byte layout.mantissa_radix

    unit : (integers : Bool) → places ≤ (if integers || not (radix == 10) then 0 else 255) → radix ^ places ≡ 10 ^ places
    unit integers few = grind (arith, nat_tests, eq-zero-or-pos, pow-zero)

    -- Without digits behind the point, there is no fraction.
    go : (num den : ℕ) (integers : Bool) → places ≤ (if integers || not (radix == 10) then 0 else 255)
        → let fraction = at_least places (digits_of radix (units % 10 ^ places)) in
        number_from_digits radix (digits_of radix (units / 10 ^ places) ++ fraction) * den ≡ num * radix ^ length fraction
        → IsWorth radix (record {
          negative = is_minus parts.sign.now;
          integer = sources.Number (units / 10 ^ places);
          fraction = if integers then None else Some (sources.Least (units % 10 ^ places) places);
          exponent = None;
        }) num den
    go num den integers few is = grind arith
