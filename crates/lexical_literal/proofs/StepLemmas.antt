-- Stages, and what may follow a part that ends at one.
use Rattle.lexical_literal.proofs.Common.{Bool, ByteSet, List, Literal, Notation, Part, Stage, Summary, [], after_digit, after_mark, after_point, arith}
use Rattle.lexical_literal.proofs.Common.{awaits_integer, continues, digits_suffice, false, forbids_plus, has_digit, has_leading_zero, if◌then◌else◌, implies}
use Rattle.lexical_literal.proofs.Common.{is_absent, is_bare, is_fresh, is_led, is_lone, is_none_or_one, is_none_or_prefix, is_plus, is_signed, list_any}
use Rattle.lexical_literal.proofs.Common.{may_float, not, part_of, refl, signs, true, ℕ, ◌&&◌, ◌++◌, ◌==◌, ◌||◌, ◌∙◌, ◌∷◌, ◌≡◌}
use Rattle.lexical_util.specs.declared.feature_format.roles.Role.TheVariants as roles
use Rattle.lexical_util.specs.declared.format_flags.Part.TheVariants as parts
use Rattle.lexical_literal.specs.declared.step.Stage.TheVariants as stages
use Rattle.lexical_literal.proofs.RunLemmas.{is_rest}

abbrev pub reading : Stage → Bool → Summary
reading stage gap = record { stage = stage; gap = gap; ended = false }

-- A digit, a separator and a sign do not leave their part.
pub digit_part : (stage : Stage) (gap zero : Bool) → part_of (after_digit stage gap zero) ≡ part_of stage
digit_part stage gap zero = grind arith

pub mark_part : (stage : Stage) → part_of (after_mark stage) ≡ part_of stage
mark_part stage = grind arith

pub point_part : (digit : Bool) → part_of (after_point digit) ≡ parts.Fraction
point_part digit = grind arith

pub awaited_part : (stage : Stage) → awaits_integer stage ≡ true → part_of stage ≡ parts.Integer
awaited_part stage is = grind arith

-- `led_after D stage run` is true if there is a leading zero after `run`.
abbrev pub led_after : ByteSet → Stage → List ℕ → Bool
led_after D stages.Start run = has_leading_zero D run
led_after D stages.Empty run = has_leading_zero D run
led_after D stages.Bare run = list_any D run
led_after D stages.Zero run = list_any D run
led_after D stages.Led run = true
led_after D _ run = false

-- `stage_after D stage gap run` is the stage after the bytes of `run`: digits, which are in `D`, and separators.
abbrev pub stage_after : ByteSet → Stage → Bool → List ℕ → Stage
stage_after D stage gap [] = stage
stage_after D stage gap (b ∷ run) = if D b then stage_after D (after_digit stage gap (b == 48)) false run else stage_after D (after_mark stage) true run

-- `after_byte D stage gap b run digit` is the stage after `b`, a digit if `digit` is true, and the bytes of `run`.
abbrev pub after_byte : ByteSet → Stage → Bool → ℕ → List ℕ → Bool → Stage
after_byte D stage gap b run digit = if digit then stage_after D (after_digit stage gap (b == 48)) false run else stage_after D (after_mark stage) true run

-- What is true of the stage `last` after `run`.
pub record Passed (D : ByteSet) (stage : Stage) (run : List ℕ) (last : Stage) : Type 0 where
  pub seen : has_digit last ≡ (list_any D run || has_digit stage)
  pub counts : not (is_lone last) ≡ (list_any D run || not (is_lone stage))
  pub led : is_led last ≡ led_after D stage run

pub passed : (D : ByteSet) (stage : Stage) (gap : Bool) (run : List ℕ) → Passed D stage run (stage_after D stage gap run)
passed D stage gap [] = record { seen = refl; counts = refl; led = grind arith }
passed D stages.Start gap (b ∷ run) =
    let digit = passed D (after_digit stages.Start gap (b == 48)) false run in
    let mark = passed D stages.Empty true run in record { seen = grind arith; counts = grind arith; led = grind arith }
passed D stage gap (b ∷ run) =
    let digit = passed D (after_digit stage gap (b == 48)) false run in
    let mark = passed D (after_mark stage) true run in record { seen = grind arith; counts = grind arith; led = grind arith }

-- `stage_at stage sign prefix` is the stage after a sign and a prefix, and `gap_at gap prefix` tells whether a gap is before it.
abbrev pub stage_at : Stage → List ℕ → List ℕ → Stage
stage_at stage sign prefix = if is_absent prefix then (if is_absent sign then stage else after_mark stage) else stages.Prefixed

abbrev pub gap_at : Bool → List ℕ → Bool
gap_at gap prefix = is_absent prefix && gap

-- The digits of a part do not leave it.
pub run_part : (D : ByteSet) (stage : Stage) (gap : Bool) (run : List ℕ) → part_of (stage_after D stage gap run) ≡ part_of stage
run_part D stage gap [] = refl
run_part D stage gap (b ∷ run) =
    let digit = run_part D (after_digit stage gap (b == 48)) false run ∙ digit_part stage gap (b == 48) in
    let mark = run_part D (after_mark stage) true run ∙ mark_part stage in grind arith

pub integer_part : (sign prefix : List ℕ) → part_of (stage_at stages.Start sign prefix) ≡ parts.Integer
integer_part sign prefix = grind arith

pub exponent_part : (sign : List ℕ) → part_of (stage_at stages.Mark sign []) ≡ parts.Exponent
exponent_part sign = grind arith

module _ (m : Notation) where
  -- `sign_fits m part stage sign` is true if `sign` may follow in `part` at `stage`.
  abbrev pub sign_fits : Part → Stage → List ℕ → Bool
  sign_fits part stage sign = is_none_or_one signs sign
      && (implies (forbids_plus m part) (not (is_plus sign)) && (if is_absent sign then is_signed m part stage else is_fresh stage))

  -- `prefix_fits m stage gap prefix` is true if `prefix` may follow, or what is left of it if its zero has been read.
  abbrev pub prefix_fits : Stage → Bool → List ℕ → Bool
  prefix_fits stage gap [] = true
  prefix_fits stage gap (b ∷ []) = is_bare stage && m.prefix b
  prefix_fits stage gap (z ∷ b ∷ more) = (awaits_integer stage && not gap) && is_none_or_prefix m.prefix (z ∷ b ∷ more)

  -- `digits_fit m part stage digits end` is true if `digits` may be the digits of `part`, and `end` is true of the stage after
  -- them, begun with `stage`.
  abbrev pub digits_fit : Part → Stage → List ℕ → (Stage → Bool) → Bool
  digits_fit part stage digits end = is_rest m part false false digits && end (stage_after (m.digit part) stage false digits)

  -- `ends_exponent m l last` is true if the parts of `l` behind the exponent digits, which end at the stage `last`, may follow them.
  abbrev pub ends_exponent : Literal → Stage → Bool
  ends_exponent l last = digits_suffice m parts.Exponent last && is_none_or_one m.suffix l.suffix

  -- `ends_mantissa m l stop scale` is the same for the mantissa, if a suffix may follow it if `stop` is true, and an exponent if
  -- `scale` is true.
  abbrev pub ends_mantissa : Literal → Bool → Bool → Bool
  ends_mantissa l stop scale = is_none_or_one m.exponent_character l.exponent_character && (if is_absent l.exponent_character
      then stop && ((is_absent l.exponent_sign && is_absent l.exponent) && is_none_or_one m.suffix l.suffix)
      else scale && (sign_fits parts.Exponent stages.Mark l.exponent_sign
      && digits_fit parts.Exponent (stage_at stages.Mark l.exponent_sign []) l.exponent (ends_exponent l)))

  -- `fraction_fits m l last` is true if a point and a fraction may follow the integer digits, which end at the stage `last`.
  abbrev pub fraction_fits : Literal → Stage → Bool
  fraction_fits l last = if is_absent l.point then is_absent l.fraction
      else may_float m last && digits_fit parts.Fraction (after_point (has_digit last)) l.fraction (digits_suffice m parts.Fraction)

  -- `stops m l last` is true if a suffix may follow the mantissa, and `scales m l last` if an exponent may.
  abbrev pub stops : Literal → Stage → Bool
  stops l last = if is_absent l.point then continues m parts.Integer last roles.Suffix else continues m parts.Fraction last roles.Suffix

  abbrev pub scales : Literal → Stage → Bool
  scales l last = if is_absent l.point then continues m parts.Integer last roles.Exponent else continues m parts.Fraction last roles.Exponent

  -- `ends_part m part l last` is true if the parts of `l` behind the digits of `part`, which end at the stage `last`, may follow them.
  abbrev pub ends_part : Part → Literal → Stage → Bool
  ends_part parts.Integer l last =
      digits_suffice m parts.Integer last && (is_none_or_one m.point l.point && (fraction_fits l last && ends_mantissa l (stops l last) (scales l last)))
  ends_part parts.Fraction l last = digits_suffice m parts.Fraction last
      && ends_mantissa l (continues m parts.Fraction last roles.Suffix) (continues m parts.Fraction last roles.Exponent)
  ends_part parts.Exponent l last = ends_exponent l last

-- `text_after part l` is the text of the parts of `l` behind the digits of `part`.
abbrev pub text_after : Part → Literal → List ℕ
text_after parts.Integer l = l.point ++ (l.fraction ++ (l.exponent_character ++ (l.exponent_sign ++ (l.exponent ++ l.suffix))))
text_after parts.Fraction l = l.exponent_character ++ (l.exponent_sign ++ (l.exponent ++ l.suffix))
text_after parts.Exponent l = l.suffix
