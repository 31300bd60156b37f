-- How numbers are written: the bytes that play each role, the flags, and the conditions.
use Rattle.std.specs.Prelude.{ℕ, ◌≡◌, ◌↔◌, ◌==◌, ◌&&◌, ◌||◌, Bool, true, false, not, IsTrue, if◌then◌else◌, nat_lt, List, [], ◌∷◌, map, Option, Some}
use Rattle.std.specs.Prelude.{None, get_or}
use Rattle.std.specs.List.{list_any}
use Rattle.lexical_util.specs.Ascii.{ByteSet}
use Rattle.lexical_util.specs.Digits.{byte_value}
use Rattle.lexical_util.specs.Layout as layout
use Rattle.lexical_util.specs.Layout.{Flag}
use Rattle.lexical_util.specs.Record.{Record, effective, raw}
use Rattle.lexical_util.specs.Roles.{cased, signs}
use Rattle.lexical_util.specs.declared.feature_format.roles.Role.{Role}
use Rattle.lexical_util.specs.declared.feature_format.roles.Role.TheVariants as roles
use Rattle.lexical_util.specs.declared.format_flags.Part.{Part}
use Rattle.lexical_util.specs.declared.format_flags.Part.TheVariants as parts
use Rattle.lexical_literal.specs.declared.syntax.Condition.{Condition}
use Rattle.lexical_literal.specs.declared.syntax.Condition.TheVariants as conditions
use Rattle.lexical_literal.specs.declared.syntax.Conditions.{Conditions}
use Rattle.lexical_literal.specs.declared.syntax.Options.{Options}
use Rattle.lexical_literal.specs.declared.syntax.Grammar.{Grammar}

-- `Notation` has flags, conditions and their numbers, and the bytes that play each role. If `integers_only` is true, every literal is an integer.
pub record Notation : Type 0 where
  pub flag : Flag → Bool
  pub condition : Condition → Bool
  pub number : Condition → ℕ
  pub digit : Part → ByteSet
  pub separator : ByteSet
  pub prefix : ByteSet
  pub suffix : ByteSet
  pub point : ByteSet
  pub exponent_character : ByteSet
  pub integers_only : Bool

-- `radix_of r part` is the radix of the digits of `part` in the format `r`.
abbrev pub radix_of : Record → Part → ℕ
radix_of r parts.Exponent = effective (r.byte layout.exponent_radix) (r.byte layout.mantissa_radix)
radix_of r _ = r.byte layout.mantissa_radix

-- `point_of options` is the decimal point, and `exponent_character_of r options` the exponent character in the format `r`. Without options, both are empty.
abbrev pub point_of : Option Options → ByteSet
point_of None byte = false
point_of (Some options) byte = cased true options.point byte

abbrev pub exponent_character_of : Record → Option Options → ByteSet
exponent_character_of r None byte = false
exponent_character_of r (Some options) byte = cased (r.flag layout.case_sensitive_exponent) options.exponent byte

-- `lacks_options options` is true if there are no options, so that literals are integers.
abbrev pub lacks_options : Option Options → Bool
lacks_options None = true
lacks_options (Some options) = false

-- `all_conditions` lists the conditions, and `order d` is the place of `d` in this list.
abbrev pub all_conditions : List Condition
all_conditions = conditions.BasePrefix ∷ conditions.BaseSuffix ∷ conditions.NegativeSign ∷ conditions.IntegerGroupSize
    ∷ conditions.HigherGroupSize ∷ conditions.LeadingZero ∷ conditions.DecimalFirstDigit ∷ []

abbrev pub order : Condition → ℕ
order conditions.BasePrefix = 0
order conditions.BaseSuffix = 1
order conditions.NegativeSign = 2
order conditions.IntegerGroupSize = 3
order conditions.HigherGroupSize = 4
order conditions.LeadingZero = 5
order conditions.DecimalFirstDigit = 6

-- `is_same d e` is true if `d` and `e` are the same condition.
abbrev pub is_same : Condition → Condition → Bool
is_same d e = order d == order e

-- `number_of c d` is the number of the condition `d` in `c`, or 0 if it is not one of the conditions `c`, and `has c d` is true if it is.
abbrev pub number_of : Conditions → Condition → ℕ
number_of c d = get_or c.numbers (order d) 0

abbrev pub has : Conditions → Condition → Bool
has c d = not (number_of c d == 0)

-- `kept C N` has the conditions for which `C` is true, with the numbers `N`, and `no_conditions` has none.
abbrev pub kept : (Condition → Bool) → (Condition → ℕ) → Conditions
kept C N = record { numbers = map (λ d. if C d then N d else 0) all_conditions }

abbrev pub no_conditions : Conditions
no_conditions = record { numbers = map (λ d. 0) all_conditions }

-- `notation_of g` is the notation of the format, the options and the conditions of `g`.
abbrev pub notation_of : Grammar → Notation
notation_of g = record {
  flag = (raw g.word).flag;
  condition = has g.conditions;
  number = number_of g.conditions;
  digit = λ part byte. nat_lt (byte_value byte) (radix_of (raw g.word) part);
  separator = λ byte. list_any (raw g.word).flag layout.digit_separator_flags && cased true ((raw g.word).byte layout.digit_separator) byte;
  prefix = cased ((raw g.word).flag layout.case_sensitive_base_prefix) ((raw g.word).byte layout.base_prefix);
  suffix = cased ((raw g.word).flag layout.case_sensitive_base_suffix) ((raw g.word).byte layout.base_suffix);
  point = point_of g.options;
  exponent_character = exponent_character_of (raw g.word) g.options;
  integers_only = lacks_options g.options;
}

-- `set_of_role m role` is the set of the bytes that play `role`.
abbrev pub set_of_role : Notation → Role → ByteSet
set_of_role m roles.Digit byte = m.digit parts.Integer byte || m.digit parts.Fraction byte || m.digit parts.Exponent byte
set_of_role m roles.Sign byte = signs byte
set_of_role m roles.Separator byte = m.separator byte
set_of_role m roles.Prefix byte = m.prefix byte
set_of_role m roles.Suffix byte = m.suffix byte
set_of_role m roles.Exponent byte = m.exponent_character byte
set_of_role m roles.Point byte = m.point byte

-- `IsOnlyRole m byte found` holds if `found` is the only role that `byte` plays, or if it is `None` and `byte` plays none.
abbrev pub IsOnlyRole : Notation → ℕ → Option Role → Type 0
IsOnlyRole m byte found = (role : Role) → IsTrue (set_of_role m role byte) ↔ (found ≡ Some role)
