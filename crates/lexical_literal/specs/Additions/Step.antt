-- What has been read of a number, changed by one byte.
use Rattle.std.specs.Prelude.{ℕ, Bool, true, false, not, ◌==◌, ◌&&◌, ◌||◌, if◌then◌else◌, nat_le, ◌+◌, ◌≡◌, length, slice_index, List, [], ◌∷◌, Option, Some}
use Rattle.std.specs.Prelude.{None}
use Rattle.lexical_util.specs.Layout as layout
use Rattle.lexical_util.specs.Layout.{separators_in}
use Rattle.lexical_util.specs.Roles.{signs}
use Rattle.lexical_util.specs.declared.feature_format.roles.Role.{Role}
use Rattle.lexical_util.specs.declared.feature_format.roles.Role.TheVariants as roles
use Rattle.lexical_util.specs.declared.format_flags.Part.{Part}
use Rattle.lexical_util.specs.declared.format_flags.Part.TheVariants as parts
use Rattle.lexical_literal.specs.Literal.{Literal}
use Rattle.lexical_literal.specs.Notation.{Notation}
use Rattle.lexical_literal.specs.Run.{is_place}
use Rattle.lexical_literal.specs.declared.step.Piece.{Piece}
use Rattle.lexical_literal.specs.declared.step.Piece.TheVariants as pieces
use Rattle.lexical_literal.specs.declared.step.Stage.{Stage}
use Rattle.lexical_literal.specs.declared.step.Stage.TheVariants as stages
use Rattle.lexical_literal.specs.declared.step.Summary.{Summary}
use Rattle.lexical_literal.specs.declared.syntax.Condition.{Condition}
use Rattle.lexical_literal.specs.declared.syntax.Condition.TheVariants as conditions

-- `role_at m part byte` is the role of `byte` after a front that ends in `part`, where digits are those of the radix of `part`.
abbrev pub role_at : Notation → Part → ℕ → Option Role
role_at m part byte =
    if m.digit part byte then Some roles.Digit
    else (if m.separator byte then Some roles.Separator
    else (if m.point byte then Some roles.Point
    else (if m.exponent_character byte then Some roles.Exponent
    else (if m.suffix byte then Some roles.Suffix
    else (if signs byte then Some roles.Sign
    else (if m.prefix byte then Some roles.Prefix else None))))))

-- `part_of stage` is the part that a digit belongs to at `stage`.
abbrev pub part_of : Stage → Part
part_of stages.Lone = parts.Fraction
part_of stages.Point = parts.Fraction
part_of stages.Fraction = parts.Fraction
part_of stages.Mark = parts.Exponent
part_of stages.Signed = parts.Exponent
part_of stages.Exponent = parts.Exponent
part_of _ = parts.Integer

-- `digits_of part` is the stage where `part` has digits without a leading zero.
abbrev pub digits_of : Part → Stage
digits_of parts.Integer = stages.Integer
digits_of parts.Fraction = stages.Fraction
digits_of parts.Exponent = stages.Exponent

-- `is_run stage` is true if another digit changes no stage, and may follow.
abbrev pub is_run : Stage → Bool
is_run stages.Led = true
is_run stages.Integer = true
is_run stages.Fraction = true
is_run stages.Exponent = true
is_run _ = false

-- `has_digit stage` is true if the part has a digit.
abbrev pub has_digit : Stage → Bool
has_digit stages.Bare = true
has_digit stages.Zero = true
has_digit stage = is_run stage

-- `is_fresh stage` is true if a sign may follow.
abbrev pub is_fresh : Stage → Bool
is_fresh stages.Start = true
is_fresh stages.Mark = true
is_fresh _ = false

-- `is_lone stage` is true if the mantissa has no digits, after its decimal point.
abbrev pub is_lone : Stage → Bool
is_lone stages.Lone = true
is_lone _ = false

-- `is_led stage` is true if the integer has a leading zero.
abbrev pub is_led : Stage → Bool
is_led stages.Led = true
is_led _ = false

-- `awaits_integer stage` is true if the integer has no digits, and a zero is a leading one.
abbrev pub awaits_integer : Stage → Bool
awaits_integer stages.Start = true
awaits_integer stages.Empty = true
awaits_integer _ = false

-- `is_bare stage` is true if the integer is the digit 0, which may be the zero of a prefix.
abbrev pub is_bare : Stage → Bool
is_bare stages.Bare = true
is_bare _ = false

-- `implies a b` is true if `b` is true or `a` is false.
abbrev pub implies : Bool → Bool → Bool
implies a b = not a || b

-- `needs_exponent m` is true if each literal has an exponent.
abbrev pub needs_exponent : Notation → Bool
needs_exponent m = m.flag layout.required_exponent_notation && not m.integers_only

-- `may_lead m` is true if some literal has a leading zero.
abbrev pub may_lead : Notation → Bool
may_lead m = (not m.integers_only && not (m.flag layout.no_float_leading_zeros)) || (not (m.flag layout.no_integer_leading_zeros) && not (needs_exponent m))

-- `may_follow m stage` is true if another digit may follow.
abbrev pub may_follow : Notation → Stage → Bool
may_follow m stages.Bare = may_lead m
may_follow m stages.Zero = may_lead m
may_follow m _ = true

-- `after_digit stage gap zero` is the stage after a digit, which is 0 if `zero` is true, and after a gap if `gap` is true.
abbrev pub after_digit : Stage → Bool → Bool → Stage
after_digit stages.Start gap zero = if zero then (if gap then stages.Zero else stages.Bare) else stages.Integer
after_digit stages.Empty gap zero = if zero then (if gap then stages.Zero else stages.Bare) else stages.Integer
after_digit stages.Bare gap zero = stages.Led
after_digit stages.Zero gap zero = stages.Led
after_digit stages.Led gap zero = stages.Led
after_digit stage gap zero = digits_of (part_of stage)

-- `after_mark stage` is the stage after a separator or a sign.
abbrev pub after_mark : Stage → Stage
after_mark stages.Start = stages.Empty
after_mark stages.Mark = stages.Signed
after_mark stages.Bare = stages.Zero
after_mark stage = stage

-- `gap_fits m part digit gap next` is true if there is no gap, or if a separator may be where it is: after a digit of `part` if `digit` is true, and before one
-- if `next` is true.
abbrev pub gap_fits : Notation → Part → Bool → Bool → Bool → Bool
gap_fits m part digit gap next = not gap || is_place m part digit next

-- `is_open m part digit next` is true if a gap can be closed, where another digit may follow if `next` is true.
abbrev pub is_open : Notation → Part → Bool → Bool → Bool
is_open m part digit next = (is_place m part digit true && next) || is_place m part digit false

-- `needs_sign m part` is true if a sign is required before the digits of `part`, and `forbids_plus m part` if it must not be a plus sign. No sign may be before
-- a fraction.
abbrev pub needs_sign : Notation → Part → Bool
needs_sign m parts.Exponent = m.flag layout.required_exponent_sign
needs_sign m _ = m.flag layout.required_mantissa_sign

abbrev pub forbids_plus : Notation → Part → Bool
forbids_plus m parts.Exponent = m.flag layout.no_positive_exponent_sign
forbids_plus m _ = m.flag layout.no_positive_mantissa_sign

-- `is_signed m part stage` is true if the part has a sign, or needs none.
abbrev pub is_signed : Notation → Part → Stage → Bool
is_signed m part stage = not (is_fresh stage) || not (needs_sign m part)

-- `digits_suffice m part stage` is true if the part has the digits that flags require.
abbrev pub digits_suffice : Notation → Part → Stage → Bool
digits_suffice m parts.Integer stage = implies (m.flag layout.required_integer_digits) (has_digit stage)
digits_suffice m parts.Fraction stage =
    implies (m.flag layout.required_fraction_digits) (has_digit stage) && implies (m.flag layout.required_mantissa_digits) (not (is_lone stage))
digits_suffice m parts.Exponent stage = implies (m.flag layout.required_exponent_digits) (has_digit stage)

-- `may_float m stage` is true if a decimal point or an exponent may follow the leading zero, if there is one.
abbrev pub may_float : Notation → Stage → Bool
may_float m stage = implies (m.flag layout.no_float_leading_zeros) (not (is_led stage))

-- `continues m part stage role` is true if a byte with the role `role` may follow `part`. A literal may stop where the suffix may follow.
abbrev pub continues : Notation → Part → Stage → Role → Bool
continues m parts.Integer stage roles.Point = may_float m stage
continues m parts.Integer stage roles.Exponent =
    not (m.flag layout.no_exponent_notation) && (may_float m stage
    && (implies (m.flag layout.required_mantissa_digits) (has_digit stage) && not (m.flag layout.no_exponent_without_fraction)))
continues m parts.Integer stage roles.Suffix =
    not (needs_exponent m) && (has_digit stage && implies (m.flag layout.no_integer_leading_zeros) (not (is_led stage)))
continues m parts.Fraction stage roles.Exponent = not (m.flag layout.no_exponent_notation)
continues m parts.Fraction stage roles.Suffix = not (needs_exponent m)
continues m parts.Exponent stage roles.Suffix = true
continues m part stage role = false

-- `ends m part stage gap` is true if `part` may end at `stage`, behind a gap if `gap` is true.
abbrev pub ends : Notation → Part → Stage → Bool → Bool
ends m part stage gap = is_signed m part stage && (gap_fits m part (has_digit stage) gap false && digits_suffice m part stage)

-- `lacks_prefix stage` is true if the base prefix may still follow, or what is left of it.
abbrev pub lacks_prefix : Stage → Bool
lacks_prefix stages.Start = true
lacks_prefix stages.Empty = true
lacks_prefix stages.Bare = true
lacks_prefix _ = false

-- `leads_to_prefix stage zero role` is true if a byte with the role `role`, the digit 0 if `zero` is true, is the sign before
-- a base prefix, or one of its own bytes.
abbrev pub leads_to_prefix : Stage → Bool → Role → Bool
leads_to_prefix stages.Bare zero roles.Prefix = true
leads_to_prefix stages.Bare zero _ = false
leads_to_prefix stage zero roles.Sign = true
leads_to_prefix stage zero roles.Digit = zero
leads_to_prefix stage zero _ = false

-- `is_negative part plus role` is true if a byte with the role `role`, which is a plus sign if `plus` is true, is a minus sign of the mantissa.
abbrev pub is_negative : Part → Bool → Role → Bool
is_negative parts.Exponent plus role = false
is_negative part plus roles.Sign = not plus
is_negative part plus role = false

-- `leads fits role` is true if a byte with the role `role` is a sign, or a digit that fits if `fits` is true.
abbrev pub leads : Bool → Role → Bool
leads fits roles.Sign = true
leads fits roles.Digit = fits
leads fits _ = false

-- `no_condition` is true of no condition.
abbrev pub no_condition : Condition → Bool
no_condition c = false

-- `admits C s byte role` is true if the conditions `C` let `byte` follow, which has the role `role`.
abbrev pub admits : (Condition → Bool) → Summary → ℕ → Role → Bool
admits C s byte role =
    implies (C conditions.BasePrefix && lacks_prefix s.stage) (leads_to_prefix s.stage (byte == 48) role)
    && (not (C conditions.NegativeSign && is_negative (part_of s.stage) (byte == 43) role)
    && (implies (C conditions.LeadingZero && awaits_integer s.stage) (leads (byte == 48) role)
    && implies (C conditions.DecimalFirstDigit && awaits_integer s.stage) (leads (nat_le byte 57) role)))

-- `finishes C s` is true if the conditions `C` let a literal end.
abbrev pub finishes : (Condition → Bool) → Summary → Bool
finishes C s = not (C conditions.BasePrefix && lacks_prefix s.stage) && implies (C conditions.BaseSuffix) s.ended

-- `complete_by C m s` is true if what has been read is a literal of the format of `m` and the conditions `C`, and
-- `is_complete m s` if it is one of `m`.
abbrev pub complete_by : (Condition → Bool) → Notation → Summary → Bool
complete_by C m s = (s.ended || (ends m (part_of s.stage) s.stage s.gap && continues m (part_of s.stage) s.stage roles.Suffix)) && finishes C s

abbrev pub is_complete : Notation → Summary → Bool
is_complete m s = complete_by m.condition m s

-- `takes_in m part stage gap plus role` is true if some literal goes on with a byte that has the role `role`, and is a plus sign
-- if `plus` is true, at `stage` of `part`, and `takes m s plus role` if one does after `s`.
abbrev pub takes_in : Notation → Part → Stage → Bool → Bool → Role → Bool
takes_in m part stage gap plus roles.Digit = is_signed m part stage && (gap_fits m part (has_digit stage) gap true && may_follow m stage)
takes_in m part stage gap plus roles.Separator = is_signed m part stage && ((not gap || m.flag (separators_in part).consecutive)
    && is_open m part (has_digit stage) (may_follow m stage))
takes_in m part stage gap plus roles.Sign = is_fresh stage && implies (forbids_plus m part) (not plus)
takes_in m part stage gap plus roles.Prefix = is_bare stage
takes_in m part stage gap plus role = ends m part stage gap && continues m part stage role

abbrev pub takes : Notation → Summary → Bool → Role → Bool
takes m s plus role = takes_in m (part_of s.stage) s.stage s.gap plus role

-- `after_point digit` is the stage after a decimal point that follows an integer with a digit if `digit` is true.
abbrev pub after_point : Bool → Stage
after_point digit = if digit then stages.Point else stages.Lone

-- `after s zero role` is the summary after a byte that has the role `role`, and is the digit 0 if `zero` is true.
abbrev pub after : Summary → Bool → Role → Summary
after s zero roles.Digit = record s { stage = after_digit s.stage s.gap zero; gap = false }
after s zero roles.Separator = record s { stage = after_mark s.stage; gap = true }
after s zero roles.Sign = record s { stage = after_mark s.stage }
after s zero roles.Prefix = record s { stage = stages.Prefixed; gap = false }
after s zero roles.Point = record s { stage = after_point (has_digit s.stage); gap = false }
after s zero roles.Exponent = record s { stage = stages.Mark; gap = false }
after s zero roles.Suffix = record s { ended = true }

-- `move_by C m s byte role` is the summary after `byte`, which has this role, or `None` if no literal of the format of `m` and
-- the conditions `C` begins so.
abbrev pub move_by : (Condition → Bool) → Notation → Summary → ℕ → Option Role → Option Summary
move_by C m s byte None = None
move_by C m s byte (Some role) =
    if not s.ended && (takes m s (byte == 43) role && admits C s byte role) then Some (after s (byte == 48) role) else None

-- `step_by C m s byte` is the summary after one more byte, or `None` if no such literal begins so, and `step m s byte` if no
-- literal of `m` does.
abbrev pub step_by : (Condition → Bool) → Notation → Summary → ℕ → Option Summary
step_by C m s byte = move_by C m s byte (role_at m (part_of s.stage) byte)

abbrev pub step : Notation → Summary → ℕ → Option Summary
step m s byte = step_by m.condition m s byte

-- `digits_piece part` is the piece of the digits of `part`.
abbrev pub digits_piece : Part → Piece
digits_piece parts.Integer = pieces.Integer
digits_piece parts.Fraction = pieces.Fraction
digits_piece parts.Exponent = pieces.Exponent

-- `piece_of part role` is the piece that a byte with the role `role` belongs to, after a front that ends in `part`.
abbrev pub piece_of : Part → Role → Piece
piece_of part roles.Digit = digits_piece part
piece_of part roles.Separator = digits_piece part
piece_of parts.Exponent roles.Sign = pieces.ExponentSign
piece_of part roles.Sign = pieces.Sign
piece_of part roles.Prefix = pieces.Prefix
piece_of part roles.Point = pieces.Point
piece_of part roles.Exponent = pieces.ExponentCharacter
piece_of part roles.Suffix = pieces.Suffix

-- `piece_number piece` is the place of `piece` in a list of lengths.
abbrev pub piece_number : Piece → ℕ
piece_number pieces.Sign = 0
piece_number pieces.Prefix = 1
piece_number pieces.Integer = 2
piece_number pieces.Point = 3
piece_number pieces.Fraction = 4
piece_number pieces.ExponentCharacter = 5
piece_number pieces.ExponentSign = 6
piece_number pieces.Exponent = 7
piece_number pieces.Suffix = 8

-- `Cuts` has the number of bytes of each piece that has been read.
abbrev pub Cuts : Type 0
Cuts = Piece → ℕ

-- `add_more c piece n` counts `n` more bytes of `piece`, and `add c piece` one.
abbrev pub add_more : Cuts → Piece → ℕ → Cuts
add_more c piece n other = if piece_number other == piece_number piece then c other + n else c other

abbrev pub add : Cuts → Piece → Cuts
add c piece = add_more c piece 1

-- `cuts_of counts` has the lengths in the list `counts`.
abbrev pub cuts_of : List ℕ → Cuts
cuts_of counts piece = slice_index counts (piece_number piece)

-- `with_prefix c` has a base prefix: the digit 0 that has been counted for the integer is its zero.
abbrev pub with_prefix : Cuts → Cuts
with_prefix c pieces.Prefix = 2
with_prefix c pieces.Integer = 0
with_prefix c other = c other

-- `count part role c` counts one more byte with the role `role` in `part`.
abbrev pub count : Part → Option Role → Cuts → Cuts
count part None c = c
count part (Some roles.Prefix) c = with_prefix c
count part (Some role) c = add c (piece_of part role)

-- `walk_by C m s text` is the summary after the bytes of `text`, with the conditions `C`, and `walk m s text` with those of `m`.
abbrev pub walk_by : (Condition → Bool) → Notation → Option Summary → List ℕ → Option Summary
walk_by C m s [] = s
walk_by C m None (byte ∷ text) = None
walk_by C m (Some s) (byte ∷ text) = walk_by C m (step_by C m s byte) text

abbrev pub walk : Notation → Option Summary → List ℕ → Option Summary
walk m s text = walk_by m.condition m s text

-- `accepted_by C m s` is true if a text that ends with the summary `s` is a literal, with the conditions `C`, and
-- `is_accepted m s` with those of `m`.
abbrev pub accepted_by : (Condition → Bool) → Notation → Option Summary → Bool
accepted_by C m None = false
accepted_by C m (Some s) = complete_by C m s

abbrev pub is_accepted : Notation → Option Summary → Bool
is_accepted m s = accepted_by m.condition m s

-- `start` is the summary before any byte.
abbrev pub start : Summary
start = record { stage = stages.Start; gap = false; ended = false }

-- `tally_by C m s c text` has the lengths of the parts after the bytes of `text`, with the conditions `C`, and `tally m s c text`
-- with those of `m`.
abbrev pub tally_by : (Condition → Bool) → Notation → Option Summary → Cuts → List ℕ → Cuts
tally_by C m s c [] = c
tally_by C m None c (byte ∷ text) = c
tally_by C m (Some s) c (byte ∷ text) =
    tally_by C m (step_by C m s byte) (count (part_of s.stage) (role_at m (part_of s.stage) byte) c) text

abbrev pub tally : Notation → Option Summary → Cuts → List ℕ → Cuts
tally m s c text = tally_by m.condition m s c text

-- `no_cuts` counts no bytes.
abbrev pub no_cuts : Cuts
no_cuts piece = 0

-- `HasLengths l c` holds if the parts of `l` have the lengths `c`.
pub record HasLengths (l : Literal) (c : Cuts) : Type 0 where
  pub sign : length l.sign ≡ c pieces.Sign
  pub prefix : length l.prefix ≡ c pieces.Prefix
  pub integer : length l.integer ≡ c pieces.Integer
  pub point : length l.point ≡ c pieces.Point
  pub fraction : length l.fraction ≡ c pieces.Fraction
  pub exponent_character : length l.exponent_character ≡ c pieces.ExponentCharacter
  pub exponent_sign : length l.exponent_sign ≡ c pieces.ExponentSign
  pub exponent : length l.exponent ≡ c pieces.Exponent
