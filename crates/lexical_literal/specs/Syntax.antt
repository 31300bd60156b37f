-- A syntax: a lawful format, with options that fit it or without options, and conditions that do not contradict it.
use Rattle.std.specs.Prelude.{ℕ, ⊤, ◌≡◌, ◌==◌, ◌&&◌, ◌||◌, nat_le, if◌then◌else◌, List, [], ◌∷◌, Option, Some, None, option_map}
use Rattle.std.specs.Option.{option_or}
use Rattle.lexical_util.specs.Layout as layout
use Rattle.lexical_util.specs.NormalForm.{IsNormal}
use Rattle.lexical_util.specs.Options.{OptionsFit}
use Rattle.lexical_util.specs.Record.{Record, raw}
use Rattle.lexical_util.specs.Rules.{Lawful}
use Rattle.lexical_literal.specs.Notation.{all_conditions, has, number_of}
use Rattle.lexical_literal.specs.declared.syntax.Condition.{Condition}
use Rattle.lexical_literal.specs.declared.syntax.Condition.TheVariants as conditions
use Rattle.lexical_literal.specs.declared.syntax.Conditions.{Conditions}
use Rattle.lexical_literal.specs.declared.syntax.ConditionsError.{ConditionsError}
use Rattle.lexical_literal.specs.declared.syntax.ConditionsErrorKind.{ConditionsErrorKind}
use Rattle.lexical_literal.specs.declared.syntax.ConditionsErrorKind.TheVariants as faults
use Rattle.lexical_literal.specs.declared.syntax.Options.{Options}
use Rattle.lexical_literal.specs.declared.syntax.Grammar.{Grammar}

-- `FitIfAny word options` holds if there are no options, or if they fit `word`.
abbrev pub FitIfAny : ℕ → Option Options → Type 0
FitIfAny word None = ⊤
FitIfAny word (Some options) = OptionsFit word options.exponent options.point

-- `limits d` has the least and the greatest number of the condition `d`, which are 1 if it has no number.
abbrev pub limits : Condition → ℕ × ℕ
limits conditions.IntegerGroupSize = (2, 8)
limits conditions.HigherGroupSize = (2, 8)
limits _ = (1, 1)

-- `forbids_zeros r` is `NoLeadingZeros` if a flag of the format `r` forbids leading zeros, and `None` otherwise.
abbrev pub forbids_zeros : Record → Option ConditionsErrorKind
forbids_zeros r = if r.flag layout.no_integer_leading_zeros || r.flag layout.no_float_leading_zeros then Some faults.NoLeadingZeros else None

-- `missing r c d` is what the condition `d` needs and neither the format `r` nor the conditions `c` have, or `None` if there is
-- nothing.
abbrev pub missing : Record → Conditions → Condition → Option ConditionsErrorKind
missing r c conditions.BasePrefix = if r.byte layout.base_prefix == 0 then Some faults.NoBasePrefix else None
missing r c conditions.BaseSuffix = if r.byte layout.base_suffix == 0 then Some faults.NoBaseSuffix else None
missing r c conditions.NegativeSign = None
missing r c conditions.IntegerGroupSize = if r.flag layout.integer_internal_digit_separator
    then (if r.byte layout.digit_separator == 0 then Some faults.NoSeparator else None) else Some faults.NoInternalSeparator
missing r c conditions.HigherGroupSize = if has c conditions.IntegerGroupSize then None else Some faults.NoIntegerGroupSize
missing r c conditions.LeadingZero = forbids_zeros r
missing r c conditions.DecimalFirstDigit = forbids_zeros r

-- `fault r c d` is the error of `d` as one of the conditions `c` in the format `r`, or `None` if there is none.
unfoldable pub fault : Record → Conditions → Condition → Option ConditionsError
fault r c d = option_map (λ kind. record { condition = d; kind = kind }) (
    if has c d
    then (if nat_le (limits d).0 (number_of c d) && nat_le (number_of c d) (limits d).1 then missing r c d else Some faults.Number)
    else None)

-- `first_fault r c ds` is the error of the first of `ds` that is one of the conditions `c` and that the format `r` contradicts, or
-- `None` if there is none, and `contradiction r c` that of all conditions.
abbrev pub first_fault : Record → Conditions → List Condition → Option ConditionsError
first_fault r c [] = None
first_fault r c (d ∷ ds) = option_or (fault r c d) (first_fault r c ds)

abbrev pub contradiction : Record → Conditions → Option ConditionsError
contradiction r c = first_fault r c all_conditions

-- `IsSyntax g` holds if the format of `g` is lawful and its own normal form, if the options fit it, if there are any, and if
-- the conditions do not contradict it.
pub record IsSyntax (g : Grammar) : Type 0 where
  pub lawful : Lawful g.word
  pub normal : IsNormal g.word
  pub fit : FitIfAny g.word g.options
  pub conditions : contradiction (raw g.word) g.conditions ≡ None
