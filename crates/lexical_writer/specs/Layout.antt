-- How a number is laid out as a literal.
use Rattle.std.specs.Prelude.{ℕ, ◌≡◌, suc, ℤ, pos, negsuc, ◌+◌, ◌*◌, ◌==◌, ◌&&◌, ◌||◌, not, max, Bool, false, true, if◌then◌else◌, List, ◌++◌, length}
use Rattle.std.specs.Prelude.{Option, Some, None, Result, Ok, Err, is_some, option_to_list, unwrap_or}
use Rattle.std.specs.Int.Digits.{digits_of}
use Rattle.lexical_util.specs.Layout as layout
use Rattle.lexical_util.specs.Record.{Record, raw, effective_exponent_radix}
use Rattle.lexical_literal.specs.Literal.{Literal, is_minus}
use Rattle.lexical_literal.specs.Notation.{has, lacks_options, number_of}
use Rattle.lexical_literal.specs.declared.syntax.Condition.TheVariants as conditions
use Rattle.lexical_literal.specs.declared.syntax.Conditions.{Conditions}
use Rattle.lexical_literal.specs.declared.syntax.Grammar.{Grammar}
use Rattle.lexical_literal.specs.declared.syntax.Options.{Options}
use Rattle.lexical_number.specs.Number.{digits_in, number}
use Rattle.lexical_number.specs.Numeral.{with_sign}
use Rattle.lexical_value.specs.Value.{denominator, numerator}
use Rattle.lexical_writer.specs.Digits.{at_least, begins_decimal, grouped, no_groups, only_if, run_text, size_of, values_of}
use Rattle.lexical_writer.specs.declared.integer.WrittenInteger.{WrittenInteger}
use Rattle.lexical_writer.specs.declared.layout.Amount.{Amount}
use Rattle.lexical_writer.specs.declared.layout.Grouping.{Grouping}
use Rattle.lexical_writer.specs.declared.layout.Grouping.TheVariants as groupings
use Rattle.lexical_writer.specs.declared.layout.Layout.{Layout}
use Rattle.lexical_writer.specs.declared.layout.Power.{Power}
use Rattle.lexical_writer.specs.declared.layout.Style.{Style}
use Rattle.lexical_writer.specs.declared.run.Pattern.{Pattern}
use Rattle.lexical_writer.specs.declared.run.Source.{Source}
use Rattle.lexical_writer.specs.declared.run.Source.TheVariants as sources
use Rattle.lexical_writer.specs.declared.layout.WriteError.{WriteError}
use Rattle.lexical_writer.specs.declared.layout.WriteError.TheVariants as errors

-- `after_zero byte` is a zero and `byte`, or nothing if `byte` is absent.
abbrev pub after_zero : Option ℕ → List ℕ
after_zero byte = option_to_list (only_if (is_some byte) 48) ++ option_to_list byte

-- `literal_of layout` is the literal with the parts of `layout`.
abbrev pub literal_of : Layout → Literal
literal_of layout = record {
  sign = option_to_list layout.sign;
  prefix = after_zero layout.prefix;
  integer = run_text layout.integer;
  point = option_to_list layout.point;
  fraction = run_text layout.fraction;
  exponent_character = option_to_list layout.exponent_character;
  exponent_sign = option_to_list layout.exponent_sign;
  exponent = run_text layout.exponent;
  suffix = option_to_list layout.suffix;
}

-- `sign_of negative required` is a minus sign, or a plus sign where a sign is required.
abbrev pub sign_of : Bool → Bool → Option ℕ
sign_of negative required = if negative then Some 45 else only_if required 43

-- `base_byte condition byte` is `byte` if `condition` is true, unless it is 0, which means absent.
abbrev pub base_byte : Bool → ℕ → Option ℕ
base_byte condition byte = only_if (condition && not (byte == 0)) byte

-- `options_of g` has the options of `g`, or zeros if there are none.
abbrev pub options_of : Grammar → Options
options_of g = unwrap_or g.options (record { exponent = 0; point = 0 })

-- `given_fraction amount` has the fraction digits of `amount`, or none if it has no fraction.
abbrev pub given_fraction : Amount → Source
given_fraction amount = unwrap_or amount.fraction (sources.Number 0)

-- `given_power amount` is the exponent of `amount`, or one without digits if it has none.
abbrev pub given_power : Amount → Power
given_power amount = unwrap_or amount.exponent (record { negative = false; source = sources.Number 0 })

-- `either size other` is `size`, or `other` if `size` is 0.
abbrev pub either : ℕ → ℕ → ℕ
either size other = if size == 0 then other else size

-- `group_size size group` is the number of digits of a group where a condition requires `size`, or 0 if there are no groups.
abbrev pub group_size : ℕ → Grouping → ℕ
group_size size groupings.AsSyntax = size
group_size size groupings.None = 0
group_size size (groupings.Of other) = if other == 0 then 0 else either size other

-- `pattern_of r allowed last higher lowercase` is the pattern of digits in groups of these sizes. There are no groups if `last` is 0,
-- and where separators between digits are not `allowed`, or the format `r` has none.
abbrev pub pattern_of : Record → Bool → ℕ → ℕ → Bool → Pattern
pattern_of r allowed last higher lowercase =
    if last == 0 || not allowed || r.byte layout.digit_separator == 0 then no_groups lowercase
    else record { last = last; higher = higher; separator = r.byte layout.digit_separator; lowercase = lowercase }

-- `integer_pattern r c style` is the pattern of an integer. Its groups have the sizes that the conditions `c` require, or that of `style`.
abbrev pub integer_pattern : Record → Conditions → Style → Pattern
integer_pattern r c style =
    let last = group_size (number_of c conditions.IntegerGroupSize) style.group in
    pattern_of r (r.flag layout.integer_internal_digit_separator) last (either (number_of c conditions.HigherGroupSize) last) style.lowercase

-- `needs_exponent g` is true if each literal of `g` has an exponent.
abbrev pub needs_exponent : Grammar → Bool
needs_exponent g = (raw g.word).flag layout.required_exponent_notation && not (lacks_options g.options)

-- `allows_exponent g` is true if literals of `g` can have an exponent.
abbrev pub allows_exponent : Grammar → Bool
allows_exponent g = not (lacks_options g.options || (raw g.word).flag layout.no_exponent_notation)

-- `has_exponent g amount` is true if `amount` has an exponent, or if each literal has one.
abbrev pub has_exponent : Grammar → Amount → Bool
has_exponent g amount = is_some amount.exponent || needs_exponent g

-- `has_point g amount` is true if `amount` has a fraction, or if an exponent requires one.
abbrev pub has_point : Grammar → Amount → Bool
has_point g amount = is_some amount.fraction || (has_exponent g amount && (raw g.word).flag layout.no_exponent_without_fraction)

-- `one_if condition` is 1 if `condition` is true, and 0 otherwise.
abbrev pub one_if : Bool → ℕ
one_if condition = if condition then 1 else 0

-- `led_digits c prefix digits` is the number of the integer digits `digits`, of which the first is not 0, with a zero before them if the conditions
-- `c` allow no other first digit, or 1 if no zero is written. Behind a base prefix, none is.
abbrev pub led_digits : Conditions → Bool → List ℕ → ℕ
led_digits c prefix digits =
    if not prefix && (has c conditions.LeadingZero || (has c conditions.DecimalFirstDigit && not (begins_decimal digits))) then length digits + 1 else 1

-- `least_digits r c style prefix float amount` is how many integer digits are written at least: one, with the zero that the conditions `c`
-- require, and those that `style` wants, where leading zeros are allowed.
abbrev pub least_digits : Record → Conditions → Style → Bool → Bool → Amount → ℕ
least_digits r c style prefix float amount =
    let radix = r.byte layout.mantissa_radix in
    max (led_digits c prefix (digits_of radix (size_of radix amount.integer)))
    (if not (r.flag (if float then layout.no_float_leading_zeros else layout.no_integer_leading_zeros)) then style.min_digits else 0)

-- `integer_text r c style prefix float amount` is the integer that is written, behind a base prefix or not, of a float or not.
abbrev pub integer_text : Record → Conditions → Style → Bool → Bool → Amount → List ℕ
integer_text r c style prefix float amount = grouped (integer_pattern r c style)
    (at_least (least_digits r c style prefix float amount)
    (digits_of (r.byte layout.mantissa_radix) (size_of (r.byte layout.mantissa_radix) amount.integer)))

-- `fraction_text r style point amount` is the fraction that is written, with a decimal point or not: that of `amount`, or a 0 behind a
-- point if it has no digits.
abbrev pub fraction_text : Record → Style → Bool → Amount → List ℕ
fraction_text r style point amount =
    grouped (no_groups style.lowercase) (at_least (one_if point) (values_of (r.byte layout.mantissa_radix) (given_fraction amount)))

-- `laid_out g style amount` is the literal of `g` that is written for `amount`.
abbrev pub laid_out : Grammar → Style → Amount → Literal
laid_out g style amount =
    let r = raw g.word in
    let point = has_point g amount in
    let exponent = has_exponent g amount in
    let prefix = base_byte (style.base || has g.conditions conditions.BasePrefix) (r.byte layout.base_prefix) in
    record {
      sign = option_to_list (sign_of amount.negative (r.flag layout.required_mantissa_sign));
      prefix = after_zero prefix;
      integer = integer_text r g.conditions style (is_some prefix) (point || exponent) amount;
      point = option_to_list (only_if point (options_of g).point);
      fraction = fraction_text r style point amount;
      exponent_character = option_to_list (only_if exponent (options_of g).exponent);
      exponent_sign = option_to_list (sign_of (given_power amount).negative (exponent && r.flag layout.required_exponent_sign));
      exponent = grouped (no_groups style.lowercase)
          (at_least (one_if exponent) (digits_of (effective_exponent_radix r) (size_of (effective_exponent_radix r) (given_power amount).source)));
      suffix = option_to_list (base_byte (style.base || has g.conditions conditions.BaseSuffix) (r.byte layout.base_suffix));
    }

-- `first_error sign fraction last error` is the error of the first of the three that is refused. That of the last one is `error`.
abbrev pub first_error : Bool → Bool → Bool → WriteError → Option WriteError
first_error sign fraction last error =
    if sign then Some errors.Negative else (if fraction then Some errors.Fraction else (if last then Some error else None))

-- `refusal g amount` is why `amount` cannot be written as a literal of `g`, or `None` if it can.
abbrev pub refusal : Grammar → Amount → Option WriteError
refusal g amount = first_error (amount.negative && has g.conditions conditions.NegativeSign) (lacks_options g.options && is_some amount.fraction)
    ((lacks_options g.options || (raw g.word).flag layout.no_exponent_notation) && is_some amount.exponent) errors.Radix

-- `IsLaidOut g style amount result` holds if `result` is what is written for `amount`, or why it cannot be written.
abbrev pub IsLaidOut : Grammar → Style → Amount → Result Layout WriteError → Type 0
IsLaidOut g style amount (Ok layout) = (refusal g amount ≡ None) × (literal_of layout ≡ laid_out g style amount)
IsLaidOut g style amount (Err error) = refusal g amount ≡ Some error

-- `HasNumber g amount l` holds if the literal `l` of `g` has the signs and the digits of `amount`, apart from zeros before the integer
-- and the exponent, and of a 0 for a fraction without digits.
pub record HasNumber (g : Grammar) (amount : Amount) (l : Literal) : Type 0 where
  pub sign : is_minus l.sign ≡ amount.negative
  pub integer : number ((raw g.word).byte layout.mantissa_radix) l.integer ≡ size_of ((raw g.word).byte layout.mantissa_radix) amount.integer
  pub zero : Bool
  pub fraction : digits_in ((raw g.word).byte layout.mantissa_radix) l.fraction
      ≡ at_least (one_if zero) (values_of ((raw g.word).byte layout.mantissa_radix) (given_fraction amount))
  pub exponent_sign : is_minus l.exponent_sign ≡ (given_power amount).negative
  pub exponent : number (effective_exponent_radix (raw g.word)) l.exponent
      ≡ size_of (effective_exponent_radix (raw g.word)) (given_power amount).source

-- `number_of_size negative n` is the number `n` or, if `negative` is true, `n` with a minus sign, as an amount.
abbrev pub number_of_size : Bool → ℕ → Amount
number_of_size negative n = record { negative = negative; integer = sources.Number n; fraction = None; exponent = None }

-- `whole z` is the integer `z` as an amount, with a minus sign only below 0.
abbrev pub whole : ℤ → Amount
whole (pos n) = number_of_size false n
whole (negsuc n) = number_of_size true (suc n)

-- `HasValue r l z` holds if the value of `l` in the format `r` is the integer `z`, or -0 for 0.
pub record HasValue (r : Record) (l : Literal) (z : ℤ) : Type 0 where
  pub size : ℕ
  pub sign : z ≡ with_sign (is_minus l.sign) size
  pub fraction : size * denominator r.byte l ≡ numerator r.byte l

-- `whole_refusal g z` is why the integer `z` cannot be written as a literal of `g`, or `None` if it can: `z` is below 0, and no literal is.
abbrev pub whole_refusal : Grammar → ℤ → Option WriteError
whole_refusal g z = if (whole z).negative && has g.conditions conditions.NegativeSign then Some errors.Negative else None

-- `integer_literal it` is the literal that is written for the integer `it`.
abbrev pub integer_literal : WrittenInteger → Literal
integer_literal it = laid_out it.syntax it.style (number_of_size it.negative it.size)

-- `plain_text it` has the sign of the integer `it`, if it is written, and the decimal digits.
abbrev pub plain_text : WrittenInteger → List ℕ
plain_text it = option_to_list (sign_of it.negative ((raw it.syntax.word).flag layout.required_mantissa_sign))
    ++ grouped (no_groups it.style.lowercase) (at_least 1 (digits_of 10 it.size))
