-- The fraction that a literal is, by its parts, and floats that are no NaN.
use Rattle.std.proofs.Common.{rules}
use Rattle.lexical_value.proofs.Common.{Bool, Leads, Literal, Record, ap, denominator, effective_exponent_base, effective_exponent_radix, false, is_decimal}
use Rattle.lexical_value.proofs.Common.{is_minus, mantissa, not, number, numerator, places, raised_down, raised_up, refl, round, subst, suc, sym, true, zero, ℕ}
use Rattle.lexical_value.proofs.Common.{◌*◌, ◌==◌, ◌^◌, ◌∙◌, ◌≡◌}
use lib.Ieee.{Float, Format, emax, inf, is_nan, low, odd, prec, units}
use lib.Ieee.Fits.{round_is}
use Rattle.std.proofs.lemmas.Bool.{and_parts, eqb-true}
use Rattle.core.specs.Prelude.{T}
use Rattle.std.specs.Float.{NotNan}
use Rattle.lexical_util.specs.Layout as layout

-- What holds of the fraction by its parts holds of the value of the literal.
pub of_value : (P : ℕ → ℕ → Type 0) (r : Record) (l : Literal) (n m b e k : ℕ) (s : Bool) → n ≡ mantissa r.byte l → m ≡ r.byte layout.mantissa_radix
    → b ≡ effective_exponent_base r → e ≡ number (effective_exponent_radix r) l.exponent → k ≡ places (r.byte layout.mantissa_radix) l.fraction
    → s ≡ is_minus l.exponent_sign → P (n * raised_up s b e) (m ^ k * raised_down s b e) → P (numerator r.byte l) (denominator r.byte l)
of_value P r l n m b e k s N M B E K S is = search (rules, raised_up, numerator, raised_down, denominator)

-- A rounded fraction is no NaN.
odd_number : (d : ℕ) (s : Bool) (q k l : ℕ) → is_nan (odd d s q k l) ≡ false
unfolding is_nan odd
odd_number d s zero k l = refl
odd_number d s (suc q) k l = refl

units_number : (f : Format) (s : Bool) (q k : ℕ) → is_nan (units f s q k) ≡ false
unfolding is_nan units
units_number f s q k = search (rules, low, emax, is_nan, odd, prec, inf, odd_number)

round_number : (f : Format) (s : Bool) (num den : ℕ) → is_nan (round f s num den) ≡ false
round_number f s num den = ap is_nan (round_is f s num den) ∙ units_number f s _ _

pub not_nan : (f : Format) (s : Bool) (num den : ℕ) (value : Float) → value ≡ round f s num den → NotNan value
not_nan f s num den value is = subst T (sym (ap (λ x. not (is_nan x)) is ∙ ap not (round_number f s num den))) tt

-- Leading digits in a radix by its number of bits.
pub by_bits : (radix bits n digits dropped : ℕ) (more : Bool) → radix ≡ 2 ^ bits → Leads radix n digits more dropped → Leads (2 ^ bits) n digits more dropped
by_bits radix bits n digits dropped more is = subst (λ r. Leads r n digits more dropped) is

-- In a decimal format, the radix and the base are 10.
pub decimals : (r : Record) → is_decimal r.byte ≡ true → (10 ≡ r.byte layout.mantissa_radix) × (10 ≡ effective_exponent_base r)
decimals r is = let both = and_parts (r.byte layout.mantissa_radix == 10) (effective_exponent_base r == 10) is in
    (sym (eqb-true _ _ both.0), sym (eqb-true _ _ both.1))
