-- How a literal of one format is written as a literal of another one: by its own digits, or by its value.
use Rattle.std.specs.Prelude.{ℕ, ◌≡◌, ◌<◌, ◌≤◌, ◌-◌, ◌*◌, ◌/◌, ◌%◌, ◌^◌, ◌==◌, ◌&&◌, ◌||◌, ◌⊎◌, not, nat_le, true, false}
use Rattle.std.specs.Prelude.{Bool, if◌then◌else◌, is_ok, Some, None, Result, Ok, Err}
use Rattle.std.specs.Result.{MatchResult}
use Rattle.lexical_util.specs.Layout as layout
use Rattle.lexical_util.specs.Record.{Record, raw, effective_exponent_base, effective_exponent_radix}
use Rattle.lexical_literal.specs.Literal.{Literal, is_float, is_minus, is_present}
use Rattle.lexical_literal.specs.Notation.{lacks_options}
use Rattle.lexical_literal.specs.Parts.{literal_of}
use Rattle.lexical_literal.specs.Read.{Read}
use Rattle.lexical_literal.specs.declared.literal.Parts.{Parts}
use Rattle.lexical_literal.specs.declared.syntax.Grammar.{Grammar}
use Rattle.lexical_number.specs.Number.{number}
use Rattle.lexical_value.specs.Float.{is_binary, is_decimal}
use Rattle.lexical_value.specs.Scaled.{IsHuge}
use Rattle.lexical_value.specs.Value.{denominator, numerator}
use Rattle.lexical_writer.specs.Layout.{IsLaidOut, allows_exponent, literal_of as written, needs_exponent, number_of_size}
use Rattle.lexical_writer.specs.declared.layout.Amount.{Amount}
use Rattle.lexical_writer.specs.declared.layout.ExponentStyle.{ExponentStyle}
use Rattle.lexical_writer.specs.declared.layout.ExponentStyle.TheVariants as exponents
use Rattle.lexical_writer.specs.declared.layout.Layout.{Layout}
use Rattle.lexical_writer.specs.declared.layout.Style.{Style}
use Rattle.lexical_writer.specs.declared.layout.WriteError.{WriteError}
use Rattle.lexical_writer.specs.declared.layout.WriteError.TheVariants as errors
use Rattle.lexical_writer.specs.declared.run.Source.TheVariants as sources
use Rattle.lexical_writer.specs.declared.units.Units.{Units}
use Rattle.lexical_writer.specs.declared.units.Units.TheVariants as found

-- `SameFraction r l s k` holds if the value of `l` in the format `r` is that of `k` in the format `s`, as a fraction with a sign.
pub record SameFraction (r : Record) (l : Literal) (s : Record) (k : Literal) : Type 0 where
  pub sign : is_minus l.sign ≡ is_minus k.sign
  pub fraction : numerator r.byte l * denominator s.byte k ≡ numerator s.byte k * denominator r.byte l

-- `has_point parts` and `has_power parts` are true if `parts` have a fraction, and an exponent.
abbrev pub has_point : Parts → Bool
has_point parts = is_present parts.point.now || is_present parts.fraction.now

abbrev pub has_power : Parts → Bool
has_power parts = is_present parts.exponent_character.now || is_present parts.exponent.now

-- `keeps_power r parts g` is true if literals of `g` can have the exponent of `parts`, if they have one: in the same base and the same radix.
abbrev pub keeps_power : Record → Parts → Grammar → Bool
keeps_power r parts g = not (has_power parts) || (allows_exponent g
    && (effective_exponent_base r == effective_exponent_base (raw g.word) && effective_exponent_radix r == effective_exponent_radix (raw g.word)))

-- `keeps r parts g` is true if `parts` of the format `r` can be written in `g` by their own digits: if the mantissa radixes are the same, and
-- literals of `g` can have the fraction and the exponent that `parts` have.
abbrev pub keeps : Record → Parts → Grammar → Bool
keeps r parts g = keeps_power r parts g
    && (r.byte layout.mantissa_radix == (raw g.word).byte layout.mantissa_radix && not (has_point parts && lacks_options g.options))

-- `own_amount parts` are the digits and the exponent of `parts`.
abbrev pub own_amount : Parts → Amount
own_amount parts = record {
  negative = is_minus parts.sign.now;
  integer = sources.Bytes parts.integer;
  fraction = if has_point parts then Some (sources.Bytes parts.fraction) else None;
  exponent = if has_power parts then Some (record {
    negative = is_minus parts.exponent_sign.now;
    source = sources.Bytes parts.exponent;
  }) else None;
}

-- `IsUnits r l n it` holds if `it` is what is known of the value of the float `l` times `10 ^ n`: it is this whole number, or it is not whole.
-- Nothing is known of some numbers above `2 ^ 90 - 1`, and if the radix and the base are neither both 10 nor both powers of two.
abbrev pub IsUnits : Record → Literal → ℕ → Units → Type 0
IsUnits r l n (found.Whole units) = units * denominator r.byte l ≡ numerator r.byte l * 10 ^ n
IsUnits r l n found.Broken = (units : ℕ) → units * denominator r.byte l ≡ numerator r.byte l * 10 ^ n → ⊥
IsUnits r l n found.Unknown =
    ((is_decimal r.byte || is_binary r.byte) ≡ false) ⊎ IsHuge (numerator r.byte l * 10 ^ n) (denominator r.byte l)

-- `IsFewest r l most places it` holds if `places` are the fewest digits behind a decimal point with which the float `l` may be whole, and
-- `it` is what is known with these. If it is `Broken`, `most` are too few.
pub record IsFewest (r : Record) (l : Literal) (most places : ℕ) (it : Units) : Type 0 where
  pub fewer : (n : ℕ) → n < places → IsUnits r l n found.Broken
  pub known : (it ≡ found.Broken → ⊥) → (places ≤ most) × IsUnits r l places it
  pub none : it ≡ found.Broken → most < places

-- `most_places g` is how many digits of a value are behind the point at most: none in integers and in a radix other than 10.
abbrev pub most_places : Grammar → ℕ
most_places g = if lacks_options g.options || not ((raw g.word).byte layout.mantissa_radix == 10) then 0 else 255

-- `by_units negative integers places it` is a float that is known to be a number of units of the last of `places` digits behind the point,
-- as an amount without an exponent, and with a fraction unless literals are integers. Otherwise, it is why there is none.
abbrev pub by_units : Bool → Bool → ℕ → Units → Result Amount WriteError
by_units negative integers places (found.Whole units) = Ok (record {
  negative = negative;
  integer = sources.Number (units / 10 ^ places);
  fraction = if integers then None else Some (sources.Least (units % 10 ^ places) places);
  exponent = None;
})
by_units negative integers places found.Broken = Err (if integers then errors.Fraction else errors.Radix)
by_units negative integers places found.Unknown = Err errors.Radix

-- `IsByValue r parts g result` holds if `result` is the value of `parts` as an amount without an exponent, or why it is not written in `g`.
-- An integer has at most 128 bits.
pub record IsByValue (r : Record) (parts : Parts) (g : Grammar) (result : Result Amount WriteError) : Type 0 where
  pub integer : is_float (literal_of parts) ≡ false → result ≡ (let size = number (r.byte layout.mantissa_radix) parts.integer.now in
      if nat_le size (2 ^ 128 - 1) then Ok (number_of_size (is_minus parts.sign.now) size) else Err errors.Radix)
  pub float : is_float (literal_of parts) ≡ true → (places : ℕ) × (it : Units) × IsFewest r (literal_of parts) (most_places g) places it
      × (result ≡ by_units (is_minus parts.sign.now) (lacks_options g.options) places it)

-- `is_unwanted g style parts` is true if `parts` have an exponent that is not to be written.
abbrev pub is_unwanted : Grammar → Style → Parts → Bool
is_unwanted g style parts = (has_power parts && not (needs_exponent g)) && is_never style.exponent
  where
    is_never : ExponentStyle → Bool
    is_never exponents.Never = true
    is_never _ = false

-- `IsAmountOf r parts g style amount` holds if `amount` is what is written of `parts`, or why nothing is: their own digits, or their value if these
-- cannot be written, or if it is known and the exponent is not to be written.
pub record IsAmountOf (r : Record) (parts : Parts) (g : Grammar) (style : Style) (amount : Result Amount WriteError) : Type 0 where
  pub own : keeps r parts g ≡ true → is_unwanted g style parts ≡ false → amount ≡ Ok (own_amount parts)
  pub value : keeps r parts g ≡ false → IsByValue r parts g amount
  pub unwanted : keeps r parts g ≡ true → is_unwanted g style parts ≡ true → (value : Result Amount WriteError) × IsByValue r parts g value
      × (amount ≡ (if is_ok value then value else Ok (own_amount parts)))

-- `IsWritten read g style result` holds if `result` is what is written for bytes that are the parts of `read`, or why it cannot be written.
abbrev pub IsWritten : Read → Grammar → Style → Result Layout WriteError → Type 0
IsWritten read g style result = (parts : Parts) × (literal_of parts ≡ read.literal) × (amount : Result Amount WriteError)
    × IsAmountOf (raw read.format) parts g style amount
    × MatchResult amount (λ amount. IsLaidOut g style amount result) (λ error. result ≡ Err error)

-- `IsWrittenAs read g style result` holds if `result` is the literal that is written for `read`, or why there is none.
abbrev pub IsWrittenAs : Read → Grammar → Style → Result Literal WriteError → Type 0
IsWrittenAs read g style (Ok l) = (layout : Layout) × (written layout ≡ l) × IsWritten read g style (Ok layout)
IsWrittenAs read g style (Err error) = IsWritten read g style (Err error)
