-- What is read of a text part after part.
use Rattle.std.specs.Prelude.{ℕ, ◌≡◌, ◌<◌, ◌≤◌, ◌+◌, ◌-◌, ◌%◌, ◌^◌, ◌==◌, ◌&&◌, ◌||◌, nat_le, nat_lt, if◌then◌else◌, Bool, not, IsTrue, List, [], ◌∷◌, None}
use Rattle.std.specs.Prelude.{Some, true, false, drop}
use Rattle.std.specs.Prelude.{get_or, length, take}
use Rattle.std.specs.Int.Digits.{number_from_digits_after}
use Rattle.lexical_util.specs.Digits.{digit_of}
use Rattle.lexical_number.specs.Number.{digits_in}
use Rattle.lexical_util.specs.Layout as layout
use Rattle.lexical_util.specs.Layout.{separators_in}
use Rattle.lexical_util.specs.declared.feature_format.roles.Role.{Role}
use Rattle.lexical_util.specs.declared.feature_format.roles.Role.TheVariants as roles
use Rattle.lexical_util.specs.declared.format_flags.Part.{Part}
use Rattle.lexical_util.specs.declared.format_flags.Part.TheVariants as parts
use Rattle.lexical_util.specs.Record.{Record, bytes_of, raw}
use Rattle.lexical_literal.specs.Notation.{Notation, all_conditions, has, is_same, radix_of, set_of_role}
use Rattle.lexical_literal.specs.Additions.GroupSize.{has_sizes}
use Rattle.lexical_literal.specs.Additions.Step.{Cuts, add_more, after_mark, awaits_integer, cuts_of, digits_piece, has_digit, implies, is_run, is_signed}
use Rattle.lexical_literal.specs.Additions.Step.{lacks_prefix, no_cuts, part_of, piece_of, walk, start, step, takes, tally}
use Rattle.lexical_literal.specs.declared.stop.Stopped.{Stopped}
use Rattle.lexical_literal.specs.declared.scan.Reading.{Reading}
use Rattle.lexical_literal.specs.declared.step.Piece.{Piece}
use Rattle.lexical_literal.specs.declared.step.Stage.{Stage}
use Rattle.lexical_literal.specs.declared.step.Stage.TheVariants as stages
use Rattle.lexical_literal.specs.declared.syntax.Condition.TheVariants as conditions
use Rattle.lexical_literal.specs.declared.syntax.Grammar.{Grammar}
use Rattle.lexical_literal.specs.declared.syntax.Conditions.{Conditions}
use Rattle.std.specs.List.{list_any}

-- `HasRoles m` holds if no byte plays two roles, 0 is a digit, the mantissa has one radix, and integers have neither a
-- decimal point nor an exponent.
pub record HasRoles (m : Notation) : Type 0 where
  pub one : (a b : Role) (byte : ℕ) → IsTrue (set_of_role m a byte) → IsTrue (set_of_role m b byte) → a ≡ b
  pub zero_is_digit : (part : Part) → m.digit part 48 ≡ true
  pub one_mantissa : (byte : ℕ) → m.digit parts.Fraction byte ≡ m.digit parts.Integer byte
  pub integers : m.integers_only ≡ true → (byte : ℕ) → (m.point byte ≡ false) × (m.exponent_character byte ≡ false)

-- `IsReady m` holds if `m` is the notation of a syntax.
pub record IsReady (m : Notation) : Type 0 where
  pub roles : HasRoles m
  pub exponent : ℕ
  pub point : ℕ
  pub has_exponent : m.integers_only ≡ false → m.exponent_character exponent ≡ true
  pub has_point : m.integers_only ≡ false → m.point point ≡ true
  pub prefix : ℕ
  pub suffix : ℕ
  pub has_prefix : m.condition conditions.BasePrefix ≡ true → m.prefix prefix ≡ true
  pub has_suffix : m.condition conditions.BaseSuffix ≡ true → m.suffix suffix ≡ true
  pub some_sign : (m.flag layout.no_positive_mantissa_sign && m.flag layout.required_mantissa_sign) ≡ false
  pub agree : (m.flag layout.no_exponent_notation && m.flag layout.required_exponent_notation) ≡ false
  pub no_sizes : has_sizes m ≡ false

-- `HasSizes m` holds if groups that have sizes have at least one digit, and if a separator may be between digits of the integer.
pub record HasSizes (m : Notation) : Type 0 where
  pub some : has_sizes m ≡ true → 0 < m.number conditions.IntegerGroupSize
  pub internal : has_sizes m ≡ true → m.flag layout.integer_internal_digit_separator ≡ true
  pub separator : ℕ
  pub has_separator : has_sizes m ≡ true → m.separator separator ≡ true

-- `IsBegun m text at` holds if `at` has the summary of the first bytes of `text`, with which some literal begins, and
-- `IsAt m text at c` if `c` has the lengths of their parts, too.
pub record IsBegun (m : Notation) (text : List ℕ) (at : Stopped) : Type 0 where
  pub within : at.size ≤ length text
  pub read : walk m (Some start) (take at.size text) ≡ Some at.read

pub record IsAt (m : Notation) (text : List ℕ) (at : Stopped) (c : Cuts) : Type 0 where
  pub begun : IsBegun m text at
  pub counted : tally m (Some start) no_cuts (take at.size text) ≡ c

-- `IsRefused m text at` holds if a byte follows what has been read, and no literal goes on with it.
abbrev pub IsRefused : Notation → List ℕ → Stopped → Type 0
IsRefused m text at = (at.size < length text) × (step m at.read (get_or text at.size 0) ≡ None)

-- `IsReadOn m text at piece next` holds if some bytes of `piece`, or none, are read between `at` and `next`.
pub record IsReadOn (m : Notation) (text : List ℕ) (at : Stopped) (piece : Piece) (next : Stopped) : Type 0 where
  pub more : at.size ≤ next.size
  pub reads : (c : Cuts) → IsAt m text at c → IsAt m text next (add_more c piece (next.size - at.size))

-- `at_stage size stage` is where `size` bytes have been read, of which the last is no separator and no suffix.
abbrev pub at_stage : ℕ → Stage → Stopped
at_stage size stage = record { size = size; read = record { stage = stage; gap = false; ended = false } }

-- `fresh part` is the stage before any byte of `part`, which begins with a sign or a digit.
abbrev pub fresh : Part → Stage
fresh parts.Exponent = stages.Mark
fresh part = stages.Start

-- `behind_sign part sign` is the stage behind a sign with this length, or before any byte of `part` if there is none.
abbrev pub behind_sign : Part → ℕ → Stage
behind_sign part sign = if sign == 0 then fresh part else after_mark (fresh part)

-- `IsSign m text part size sign` holds if a sign with the length `sign`, or none, is read behind the first `size` bytes, and if
-- digits of `part` may follow.
pub record IsSign (m : Notation) (text : List ℕ) (part : Part) (size sign : ℕ) : Type 0 where
  pub within : size + sign ≤ length text
  pub on : IsReadOn m text (at_stage size (fresh part)) (piece_of part roles.Sign) (at_stage (size + sign) (behind_sign part sign))
  pub signed : is_signed m part (behind_sign part sign) ≡ true

-- `needs_first m` is true if a condition of `m` is on the first digit, and `is_first m digit` if these conditions allow `digit`.
abbrev pub needs_first : Notation → Bool
needs_first m = m.condition conditions.LeadingZero || m.condition conditions.DecimalFirstDigit

abbrev pub is_first : Notation → ℕ → Bool
is_first m digit = implies (m.condition conditions.LeadingZero) (digit == 48) && implies (m.condition conditions.DecimalFirstDigit) (nat_le digit 57)

-- `is_free m stage` is true if no base prefix and no first digit is required that has not been read.
abbrev pub is_free : Notation → Stage → Bool
is_free m stage = not (m.condition conditions.BasePrefix && lacks_prefix stage) && not (needs_first m && awaits_integer stage)

-- `has_first m text size` is true if no condition of `m` is on the first digit, or if they allow the one behind the first `size` bytes.
abbrev pub has_first : Notation → List ℕ → ℕ → Bool
has_first m text size = not (needs_first m)
    || (nat_lt size (length text) && (m.digit parts.Integer (get_or text size 0) && is_first m (get_or text size 0)))

-- `may_read m text size stage` is true if no base prefix is required, and if the first digit that is required follows.
abbrev pub may_read : Notation → List ℕ → ℕ → Stage → Bool
may_read m text size stage = is_free m stage || (not (m.condition conditions.BasePrefix) && has_first m text size)

-- `between text from end` has the bytes of `text` from the index `from` to `end`.
abbrev pub between : List ℕ → ℕ → ℕ → List ℕ
between text from end = take (end - from) (drop from text)

-- `IsDecimal r` holds if all digits of the format `r` are decimal.
abbrev pub IsDecimal : Record → Type 0
IsDecimal r = (part : Part) → radix_of r part ≡ 10

-- `are_usual c` is true if there are no conditions but `NegativeSign`.
abbrev pub are_usual : Conditions → Bool
are_usual c = not (list_any (λ d. has c d && not (is_same conditions.NegativeSign d)) all_conditions)

-- `is_usual g` is true if the radixes and the base of `g` are 10, if there is no base prefix, if neither a sign nor an exponent is
-- required, and if there are no conditions but `NegativeSign`, and `IsUsual g` holds if it is.
abbrev pub is_usual : Grammar → Bool
is_usual g =
    (bytes_of g.word layout.mantissa_radix == 10) && ((bytes_of g.word layout.exponent_base == 10)
    && ((bytes_of g.word layout.exponent_radix == 10) && ((bytes_of g.word layout.base_prefix == 0)
    && (not ((raw g.word).flag layout.required_mantissa_sign) && (not ((raw g.word).flag layout.required_exponent_notation)
    && are_usual g.conditions)))))

abbrev pub IsUsual : Grammar → Type 0
IsUsual g = IsTrue (is_usual g)

-- `IsDigitAt radix text index value` holds if the byte at `index` is the digit of `radix` with this value.
abbrev pub IsDigitAt : ℕ → List ℕ → ℕ → ℕ → Type 0
IsDigitAt radix text index value = (index < length text) × (digit_of (get_or text index 0) radix ≡ Some value)

-- `IsSeparated m radix text part index value` holds if a separator is at `index`, and the digit with this value behind it.
pub record IsSeparated (m : Notation) (radix : ℕ) (text : List ℕ) (part : Part) (index value : ℕ) : Type 0 where
  pub digit : IsDigitAt radix text (index + 1) value
  pub separator : m.separator (get_or text index 0) ≡ true
  pub allowed : m.flag (separators_in part).internal ≡ true

-- `IsRunOn m radix text part begun run` holds if bytes of the run of `part` that `begun` has, or none, are read between `begun`
-- and `run`, which has so many digits more, and the number that they represent behind those of `begun`, modulo `2 ^ 64`.
pub record IsRunOn (m : Notation) (radix : ℕ) (text : List ℕ) (part : Part) (begun run : Reading) : Type 0 where
  pub on : IsReadOn m text (at_stage begun.size begun.stage) (digits_piece part) (at_stage run.size run.stage)
  pub within : begun.size ≤ length text → run.size ≤ length text
  pub digits : run.sum.digits ≡ begun.sum.digits + length (digits_in radix (between text begun.size run.size))
  pub sum : run.sum.value % 2 ^ 64 ≡ number_from_digits_after radix begun.sum.value (digits_in radix (between text begun.size run.size)) % 2 ^ 64

-- `up_to run size separators value` is `run` up to the index `size`, where so many of the bytes that it has more are separators, the
-- others are digits, and all its digits represent `value`.
abbrev pub up_to : Reading → ℕ → ℕ → ℕ → Reading
up_to run size separators value = record run {
  size = size;
  sum = record { digits = run.sum.digits + (size - run.size - separators); value = value };
}

-- `IsOver m text part run` holds if no digit of `part` follows the digits of `run`, if it has any but a zero.
abbrev pub IsOver : Notation → List ℕ → Part → Reading → Type 0
IsOver m text part run = is_run run.stage ≡ true → run.size < length text → m.digit part (get_or text run.size 0) ≡ false

-- `IsPassed m text at role` holds if no byte with the role `role` follows that is read.
abbrev pub IsPassed : Notation → List ℕ → Stopped → Role → Type 0
IsPassed m text at role = at.size < length text → set_of_role m role (get_or text at.size 0) ≡ true → takes m at.read false role ≡ false

-- `counts_of s mark sign exponent suffix` lists the lengths of the parts.
abbrev pub counts_of : Reading → ℕ → ℕ → ℕ → ℕ → List ℕ
counts_of s mark sign exponent suffix = s.sign ∷ s.prefix ∷ s.integer ∷ s.point ∷ s.fraction ∷ mark ∷ sign ∷ exponent ∷ suffix ∷ []

-- `integer_counts sign prefix integer` lists the lengths of the parts if nothing is behind the integer.
abbrev pub integer_counts : ℕ → ℕ → ℕ → List ℕ
integer_counts sign prefix integer = sign ∷ prefix ∷ integer ∷ 0 ∷ 0 ∷ 0 ∷ 0 ∷ 0 ∷ 0 ∷ []

-- `IsOpened m text sign prefix stage` holds if `text` begins with a sign and a base prefix of these lengths, and if a digit may follow.
pub record IsOpened (m : Notation) (text : List ℕ) (sign prefix : ℕ) (stage : Stage) : Type 0 where
  pub at : IsAt m text (at_stage (sign + prefix) stage) (cuts_of (integer_counts sign prefix 0))
  pub signed : is_signed m parts.Integer stage ≡ true
  pub first : may_read m text (sign + prefix) stage ≡ true
  pub none : has_digit stage ≡ false
  pub inside : part_of stage ≡ parts.Integer
