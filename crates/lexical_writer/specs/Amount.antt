-- A float as an amount, to which the rules for literals apply then, and a float that is rounded.
use Rattle.std.specs.Prelude.{ℕ, ◌≡◌, ◌+◌, ◌*◌, ◌/◌, ◌%◌, ◌^◌, ◌<◌, ◌≤◌, ◌==◌, ◌&&◌, ◌||◌, ◌⊎◌, ◌++◌, not, nat_le, nat_lt, if◌then◌else◌, Bool, true}
use Rattle.std.specs.Prelude.{IfSome, false, is_some, length, List, Option, None, Some, option_map, unwrap_or}
use Rattle.std.specs.Float.{Float, Format}
use Rattle.std.specs.Float.Ieee.{neg, round}
use Rattle.std.specs.Int.Digits.{number_from_digits}
use lib.Ieee.{fin}
use lib.Ieee.Exact.{HasValue}
use Rattle.lexical_util.specs.Layout as layout
use Rattle.lexical_util.specs.Record.{Record, bytes_of, effective_exponent_base, effective_exponent_radix, raw}
use Rattle.lexical_literal.specs.Literal.{Literal, is_minus, is_present}
use Rattle.lexical_literal.specs.Notation.{has, lacks_options}
use Rattle.lexical_literal.specs.Read.{exponent, mantissa}
use Rattle.lexical_literal.specs.declared.syntax.Condition.TheVariants as conditions
use Rattle.lexical_literal.specs.declared.syntax.Grammar.{Grammar}
use Rattle.lexical_value.specs.Float.{is_binary, is_decimal}
use Rattle.lexical_value.specs.Value.{scale}
use Rattle.lexical_number.specs.Float.{raised_down, raised_up}
use Rattle.lexical_number.specs.Shortest.{is_whole}
use Rattle.lexical_number.specs.Number.{number, places as digit_count}
use Rattle.lexical_writer.specs.Digits.{size_of, values_of}
use Rattle.lexical_writer.specs.Layout.{allows_exponent, first_error, given_fraction, laid_out, needs_exponent, one_if}
use Rattle.lexical_writer.specs.declared.layout.Amount.{Amount}
use Rattle.lexical_writer.specs.declared.layout.ExponentStyle.{ExponentStyle}
use Rattle.lexical_writer.specs.declared.layout.ExponentStyle.TheVariants as exponents
use Rattle.lexical_writer.specs.declared.layout.Style.{Style}
use Rattle.lexical_writer.specs.declared.layout.WriteError.{WriteError}
use Rattle.lexical_writer.specs.declared.layout.WriteError.TheVariants as errors

-- `decimals_in g decimals` is to how many digits behind the point a float is rounded in `g`: to `decimals` in decimal floats, and else to none.
abbrev pub decimals_in : Grammar → Option ℕ → Option ℕ
decimals_in g decimals = if lacks_options g.options || not ((raw g.word).byte layout.mantissa_radix == 10) then None else decimals

-- `is_wanted wish far` is true if a float that is far from 1 or not has an exponent by a wish.
abbrev pub is_wanted : ExponentStyle → Bool → Bool
is_wanted exponents.AsNumber far = far
is_wanted exponents.Never far = false
is_wanted exponents.Always far = true

-- `is_shown g style far` is true if a float that is far from 1 or not has an exponent. One that is rounded has it only if the style wants it.
abbrev pub is_shown : Grammar → Style → Bool → Bool
is_shown g style far = let plain = not (is_some (decimals_in g style.decimals)) in
    allows_exponent g && ((plain && needs_exponent g) || is_wanted style.exponent (plain && far))

-- `least_places g style shown` is how many digits are behind the point at least: the decimals, or else one where no exponent is `shown`, but none in integers.
abbrev pub least_places : Grammar → Style → Bool → ℕ
least_places g style shown = unwrap_or (decimals_in g style.decimals) (one_if (not (shown || lacks_options g.options)))

-- `rounded num den` is the number that is nearest to `num` over `den`, or the even one if two are as near.
abbrev pub rounded : ℕ → ℕ → ℕ
rounded num den = if nat_lt (num % den * 2) den || (num % den * 2 == den && num / den % 2 == 0) then num / den else num / den + 1

-- `units_in r num den places negative e` is `num` over `den` and over the power of `e`, in units of the last of `places` digits behind the point, rounded.
abbrev pub units_in : Record → ℕ → ℕ → ℕ → Bool → ℕ → ℕ
units_in r num den places negative e = let base = effective_exponent_base r in
    rounded (num * r.byte layout.mantissa_radix ^ places * raised_down negative base e) (den * raised_up negative base e)

-- `IsExponent r num den places negative e` holds if `e`, with this sign, is the least exponent with which the rounded number is below the base, or 0 for 0.
pub record IsExponent (r : Record) (num den places : ℕ) (negative : Bool) (e : ℕ) : Type 0 where
  pub below : units_in r num den places negative e < effective_exponent_base r * r.byte layout.mantissa_radix ^ places
  pub least : 0 < num → effective_exponent_base r * r.byte layout.mantissa_radix ^ places ≤ units_in r (num * effective_exponent_base r) den places negative e
  pub zero : num ≡ 0 → e ≡ 0
  pub plus : e ≡ 0 → negative ≡ false

-- `is_far r num den` is true if `num` over `den` is below `R ^ -4` or at least `R ^ 16`, and not 0, where `R` is the radix.
abbrev pub is_far : Record → ℕ → ℕ → Bool
is_far r num den = let R = r.byte layout.mantissa_radix in nat_lt 0 num && (nat_lt (num * R ^ 4) den || nat_le (den * R ^ 16) num)

-- `IsShape g style num den exponent places units` holds if `num` over `den` is written in `g` by `style` with this exponent, its sign and its size, or none,
-- and with the digits of `units`, of which `places` are behind the point: the least number or, if it is not rounded, as many as there are, if that is more.
pub record IsShape (g : Grammar) (style : Style) (num den : ℕ) (exponent : Option (Bool × ℕ)) (places units : ℕ) : Type 0 where
  pub shown : is_some exponent ≡ is_shown g style (is_far (raw g.word) num den)
  pub least : IfSome exponent (λ e. IsExponent (raw g.word) num den places e.0 e.1)
  pub rounded : let e = unwrap_or exponent (false, 0) in units ≡ units_in (raw g.word) num den places e.0 e.1
  pub exact : let e = unwrap_or exponent (false, 0) in let B = effective_exponent_base (raw g.word) in decimals_in g style.decimals ≡ None
      → units * (den * raised_up e.0 B e.1) ≡ num * (raw g.word).byte layout.mantissa_radix ^ places * raised_down e.0 B e.1
  pub last : (places ≡ least_places g style (is_some exponent))
      ⊎ ((decimals_in g style.decimals ≡ None) × (least_places g style (is_some exponent) ≤ places) × (0 < units % (raw g.word).byte layout.mantissa_radix))

-- `units_at num den places e` is `num` over `den` and over ten to the power of `e - 400`, in units of the last of `places` decimal digits
-- behind the point, rounded.
abbrev pub units_at : ℕ → ℕ → ℕ → ℕ → ℕ
units_at num den places e = rounded (num * 10 ^ places * 10 ^ 400) (den * 10 ^ e)

-- `IsRaised num den places e` holds if `e - 400` is the least exponent of ten with which `num` over `den` is below ten where it is rounded
-- to `places` digits, or 0 for the number 0.
pub record IsRaised (num den places e : ℕ) : Type 0 where
  pub below : units_at num den places e < 10 * 10 ^ places
  pub least : 0 < num → 10 * 10 ^ places ≤ units_at (num * 10) den places e
  pub zero : num ≡ 0 → e ≡ 400

-- `float_error g x` is why no literal of `g` is written for the float `x`, the first that applies, or `None`.
abbrev pub float_error : Grammar → Float → Option WriteError
float_error g (fin negative m e) =
    first_error (negative && has g.conditions conditions.NegativeSign) (lacks_options g.options && not (is_whole (fin negative m e)))
    (not (is_decimal (bytes_of g.word) || is_binary (bytes_of g.word))) errors.Radix
float_error g _ = Some errors.Special

-- `IsFinite x negative` holds if the float `x` is a number, with the sign `-` if `negative` is true.
abbrev pub IsFinite : Float → Bool → Type 0
IsFinite x negative = (num : ℕ) × (den : ℕ) × HasValue x negative num den

-- `with_minus negative x` is the float `x`, or `-x` if `negative` is true.
abbrev pub with_minus : Bool → Float → Float
with_minus negative x = if negative then neg x else x

-- `IsWorth f x g style negative num den` holds if `num` over `den`, with this sign, is the value of the float `x` or, in radix 10 and not rounded, read as `x`.
pub record IsWorth (f : Format) (x : Float) (g : Grammar) (style : Style) (negative : Bool) (num den : ℕ) : Type 0 where
  pub some : 0 < den
  pub near : decimals_in g style.decimals ≡ None → x ≡ round f negative num den
  pub exact : HasValue x negative num den ⊎ ((decimals_in g style.decimals ≡ None) × ((raw g.word).byte layout.mantissa_radix ≡ 10))
  pub whole : is_whole x ≡ true → num % den ≡ 0

-- `IsDigitsOf f x g style bytes after exponent places` holds if `bytes`, with `after` zeros behind them, are the digits of what is written of the
-- float `x`, without its sign, of which `places` are behind the point, with this `exponent`, or none.
abbrev pub IsDigitsOf : Format → Float → Grammar → Style → List ℕ → ℕ → Option (Bool × ℕ) → ℕ → Type 0
IsDigitsOf f x g style bytes after exponent places =
    let radix = (raw g.word).byte layout.mantissa_radix in
    (num : ℕ) × (den : ℕ) × IsWorth f x g style false num den × IsShape g style num den exponent places (number radix bytes * radix ^ after)
    × (digit_count radix bytes ≡ length bytes)

-- `IsFloatOf f x g style l` holds if the literal `l` is what is written for the float `x` of `f` by `style`: an amount in a shape, by the rules for literals.
pub record IsFloatOf (f : Format) (x : Float) (g : Grammar) (style : Style) (l : Literal) : Type 0 where
  pub num : ℕ
  pub den : ℕ
  pub amount : Amount
  pub worth : IsWorth f x g style amount.negative num den
  pub shape : let R = (raw g.word).byte layout.mantissa_radix in IsShape g style num den
      (option_map (λ p. (p.negative, size_of (effective_exponent_radix (raw g.word)) p.source)) amount.exponent)
      (length (values_of R (given_fraction amount))) (number_from_digits R (values_of R amount.integer ++ values_of R (given_fraction amount)))
  pub some : is_some amount.fraction ≡ nat_lt 0 (length (values_of ((raw g.word).byte layout.mantissa_radix) (given_fraction amount)))
  pub integer : is_present (values_of ((raw g.word).byte layout.mantissa_radix) amount.integer) ≡ true
  pub text : l ≡ laid_out g style amount

-- `IsRounded x r l n` holds if `l` has the sign of the float `x`, and its size, rounded to `n` digits behind the point.
pub record IsRounded (x : Float) (r : Record) (l : Literal) (n : ℕ) : Type 0 where
  pub num : ℕ
  pub den : ℕ
  pub some : 0 < den
  pub value : HasValue x (is_minus l.sign) num den
  pub decimals : mantissa r.byte l * r.byte layout.mantissa_radix ^ n
      ≡ units_in r num den n (is_minus l.exponent_sign) (exponent r.byte l) * scale r.byte l
