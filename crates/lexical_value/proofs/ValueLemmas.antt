-- On what the value of a literal does not depend.
use Rattle.std.proofs.Common.{rules, IsFalse, IsTrue, List, None, [], append-nil, nat_lt, ◌∷◌}
use Rattle.lexical_value.proofs.Common.{Literal, Reads, Record, SameDigits, SameValue, Some, ap, arith, cond, denominator, digits_in, effective_exponent_base}
use Rattle.lexical_value.proofs.Common.{effective_exponent_radix, integer_size, is_float, mantissa, nat_tests, number, numerator, position}
use Rattle.lexical_value.proofs.Common.{pow-zero, power, refl, scale, spelled, sym, unwrap_or, ℕ, ◌++◌, ◌<◌, ◌==◌, ◌^◌, ◌∙◌, ◌≡◌}
use Rattle.std.proofs.lemmas.List.Elements.{filter_map-append}
use Rattle.std.specs.Int.Digits.{number_from_digits}
use Rattle.lexical_util.specs.Digits.{byte_value, digit_characters, digit_of, uppercase}
use Rattle.lexical_util.specs.NormalForm.{SameFormat}
use Rattle.lexical_literal.specs.Notation.{Notation}
use Rattle.lexical_util.specs.Layout as layout

-- The value depends on the mantissa radix, and on the effective exponent base and radix.
pub same_word : (r s : Record) (l : Literal) → SameFormat r s → SameValue r.byte l s.byte l
same_word r s l same = search (rules, numerator, denominator)

-- A byte in uppercase is in uppercase.
twice : (byte : ℕ) → uppercase (uppercase byte) ≡ uppercase byte
twice byte = grind (arith, nat_tests)

-- The case of a letter does not change its value.
uppercase_value : (byte : ℕ) → byte_value (uppercase byte) ≡ byte_value byte
unfolding byte_value
uppercase_value byte = ap (λ letter. unwrap_or (position (λ character. character == letter) digit_characters) 255) (twice byte)

-- Where no separator is a digit of `radix`, the digits are those that are left without separators, with uppercase letters.
module _ (m : Notation) (radix : ℕ) (apart : (byte : ℕ) → byte_value byte < radix → IsTrue (m.separator byte) → ⊥) where
  same_digit : (byte : ℕ) → digit_of (uppercase byte) radix ≡ digit_of byte radix
  same_digit byte = ap (λ value. cond (nat_lt value radix) (Some value) None) (uppercase_value byte)

  spelled_digits : (bytes : List ℕ) → digits_in radix (spelled m bytes) ≡ digits_in radix bytes
  spelled_digits [] = refl
  spelled_digits (byte ∷ bytes) = let rest = spelled_digits bytes in let same = same_digit byte in let none = apart byte in grind (arith, nat_tests)

  -- Two runs that are spelled alike have the same digits.
  pub same_digits : (xs ys : List ℕ) → spelled m xs ≡ spelled m ys → digits_in radix xs ≡ digits_in radix ys
  same_digits xs ys same = sym (spelled_digits xs) ∙ ap (digits_in radix) same ∙ spelled_digits ys

-- Where no separator is a digit, literals with the same digits have the same value.
module _ (r : Record) (m : Notation) (l k : Literal) (same : SameDigits m l k)
    (mantissa_apart : (byte : ℕ) → byte_value byte < r.byte layout.mantissa_radix → IsTrue (m.separator byte) → ⊥)
    (exponent_apart : (byte : ℕ) → byte_value byte < effective_exponent_radix r → IsTrue (m.separator byte) → ⊥) where
  abbrev radix : ℕ
  radix = r.byte layout.mantissa_radix

  same_fraction : digits_in radix l.fraction ≡ digits_in radix k.fraction
  same_fraction = same_digits m radix mantissa_apart l.fraction k.fraction same.fraction

  same_mantissa : mantissa r.byte l ≡ mantissa r.byte k
  same_mantissa = ap (number_from_digits radix) (filter_map-append _ l.integer l.fraction
      ∙ (λ i. same_digits m radix mantissa_apart l.integer k.integer same.integer i ++ same_fraction i) ∙ sym (filter_map-append _ k.integer k.fraction))

  same_power : power r.byte l ≡ power r.byte k
  same_power = ap (λ digits. effective_exponent_base r ^ number_from_digits (effective_exponent_radix r) digits)
      (same_digits m (effective_exponent_radix r) exponent_apart l.exponent k.exponent same.exponent)

  pub same_value : SameValue r.byte l r.byte k
  same_value = search (rules, numerator, same_mantissa, same_power, denominator, same_fraction)

-- Without an exponent, its power is 1.
no_power : (r : Record) (l : Literal) → l.exponent ≡ [] → power r.byte l ≡ 1
no_power r l none = let base = effective_exponent_base r in
    ap (λ bytes. base ^ number (effective_exponent_radix r) bytes) none ∙ pow-zero base

-- Without fraction digits, the mantissa is the number that the integer digits represent.
pub integer_mantissa : (r : Record) (l : Literal) → l.fraction ≡ [] → mantissa r.byte l ≡ integer_size r.byte l
integer_mantissa r l none = ap (number (r.byte layout.mantissa_radix)) (ap (λ bytes. l.integer ++ bytes) none ∙ append-nil l.integer)

-- Without fraction and exponent, the numerator is the number that the integer digits represent, and the denominator is 1.
pub whole_numerator : (r : Record) (l : Literal) → l.fraction ≡ [] → l.exponent ≡ [] → numerator r.byte l ≡ integer_size r.byte l
whole_numerator r l fraction exponent = search (rules, integer_mantissa, no_power)

pub whole_denominator : (r : Record) (l : Literal) → l.fraction ≡ [] → l.exponent ≡ [] → denominator r.byte l ≡ 1
whole_denominator r l fraction exponent = search (rules, scale, digits_in, pow-zero, no_power)

-- Without a decimal point, there is no fraction.
pub no_fraction : (m : Notation) (l : Literal) (text : List ℕ) → Reads m l text → IsFalse (is_float l) → l.fraction ≡ []
no_fraction m l text reads whole = reads.literal.spelled.after_point (grind arith)

-- Without fraction and exponent, the numerator is the number that the integer digits represent.
pub integer_numerator : (m : Notation) (r : Record) (l : Literal) (text : List ℕ) → Reads m l text → IsFalse (is_float l)
    → numerator r.byte l ≡ integer_size r.byte l
integer_numerator m r l text reads whole = whole_numerator r l (no_fraction m l text reads whole) (reads.literal.spelled.after_character (grind arith)).1
