-- Why a text is not a literal: the cause, the flags and conditions that are to blame, and the bytes to show.
use Rattle.std.specs.Prelude.{ℕ, ◌≡◌, ◌+◌, ◌^◌, ◌==◌, ◌&&◌, ◌↔◌, ◌⊎◌, ◌||◌, not, Bool}
use Rattle.std.specs.Prelude.{false, if◌then◌else◌, IsTrue, List, [], ◌∷◌, ◌++◌, drop, length, map, nat_lt}
use Rattle.std.specs.Prelude.{sum_by, take, slice_get, Option, Some, None}
use Rattle.std.specs.Int.{w128, trailing_zeros}
use Rattle.std.specs.List.{find, list_any, position_or_len}
use Rattle.std.specs.Option.{unwrap_or}
use Rattle.lexical_util.specs.Ascii.{ByteSet}
use Rattle.lexical_util.specs.declared.error.Error.{Error}
use Rattle.lexical_util.specs.declared.error.Error.TheVariants as errors
use Rattle.lexical_util.specs.Layout as layout
use Rattle.lexical_util.specs.Layout.{Flag, bit, separators_in}
use Rattle.lexical_util.specs.Record.{raw}
use Rattle.lexical_util.specs.Roles.{other_case, signs}
use Rattle.lexical_util.specs.declared.format_flags.Part.{Part}
use Rattle.lexical_util.specs.declared.format_flags.Part.TheVariants as parts
use Rattle.lexical_literal.specs.Front.{BeginsBy, IsValidBy, NoneBy}
use Rattle.lexical_literal.specs.Literal.{Literal, Reads}
use Rattle.lexical_literal.specs.Notation.{all_conditions, Notation, has, order}
use Rattle.lexical_literal.specs.declared.syntax.Condition.{Condition}
use Rattle.lexical_literal.specs.declared.syntax.Condition.TheVariants as conditions
use Rattle.lexical_literal.specs.declared.syntax.Conditions.{Conditions}
use Rattle.lexical_literal.specs.declared.cause.Place.{Place}
use Rattle.lexical_literal.specs.declared.cause.Place.TheVariants as places
use Rattle.lexical_literal.specs.declared.cause.ReadErrorKind.{ReadErrorKind}
use Rattle.lexical_literal.specs.declared.cause.ReadErrorKind.TheVariants as causes
use Rattle.lexical_literal.specs.declared.cause.Refusal.{Refusal}
use Rattle.lexical_literal.specs.declared.cause.Spot.{Spot}

-- THE SAME NOTATION WITH OTHER FLAGS AND CONDITIONS

-- `requirement_flags` lists the flags that require something of the parts of a literal.
abbrev pub requirement_flags : List Flag
requirement_flags =
    layout.required_digits ++ layout.no_positive_mantissa_sign ∷ layout.required_mantissa_sign ∷ layout.no_exponent_notation ∷
    layout.no_positive_exponent_sign ∷ layout.required_exponent_sign ∷ layout.no_exponent_without_fraction ∷
    layout.no_integer_leading_zeros ∷ layout.no_float_leading_zeros ∷ layout.required_exponent_notation ∷ []

-- `number_separator_flags` lists the flags that allow a digit separator in a number: all but the last of those that allow one somewhere.
abbrev pub number_separator_flags : List Flag
number_separator_flags = take 12 layout.digit_separator_flags

-- `is_one_of fs f` is true if `f` is one of `fs`.
abbrev pub is_one_of : List Flag → Flag → Bool
is_one_of fs f = list_any (λ g. bit g == bit f) fs

-- `bare m` is `m` without the flags that require something, and without conditions.
abbrev pub bare : Notation → Notation
bare m = record m { flag = λ g. m.flag g && not (is_one_of requirement_flags g); condition = λ c. false }

-- `adding f m` is `m` with the flag `f`, and `requiring c m` is `m` with the condition `c`.
abbrev pub adding : Flag → Notation → Notation
adding f m = record m { flag = λ g. (bit g == bit f) || m.flag g }

abbrev pub requiring : Condition → Notation → Notation
requiring c m = record m { condition = λ d. (order c == order d) || m.condition d }

-- THE CAUSE

-- `Allows m front next` holds if some literal begins with `front` and the byte `next`, or if `front` is a literal, where `next` is `None`.
abbrev pub Allows : Notation → List ℕ → Option ℕ → Type 0
Allows m front None = (l : Literal) × Reads m l front
Allows m front (Some byte) = BeginsBy (Reads m) (front ++ byte ∷ [])

-- `binds m f` is true if the flag `f` is set and requires something. Where each literal has an exponent, the leading zeros of integers do not matter.
abbrev pub binds : Notation → Flag → Bool
binds m f =
    m.flag f && (is_one_of requirement_flags f
    && not ((bit f == bit layout.no_integer_leading_zeros) && (m.flag layout.required_exponent_notation && not m.integers_only)))

-- A text `front` is right, and the byte `next` cannot follow it; or `next` is `None`, and `front` is not a literal.
module _ (m : Notation) (front : List ℕ) (next : Option ℕ) where
  -- `RefusesAlone f` holds if the flag `f` requires something and refuses `next`, even if it is the only such flag.
  abbrev pub RefusesAlone : Flag → Type 0
  RefusesAlone f = IsTrue (binds m f) × (Allows (adding f (bare m)) front next → ⊥)

  -- `IsUnmet c` holds if `next` is allowed without requirements, and the condition `c` refuses it, even if it is the only requirement.
  pub record IsUnmet (c : Condition) : Type 0 where
    pub set : IsTrue (m.condition c)
    pub allowed : Allows (bare m) front next
    pub refused : Allows (requiring c (bare m)) front next → ⊥

  -- `RefusesJointly f` holds if no flag and no condition refuses `next` alone, and if `f` is on leading zeros and requires something.
  pub record RefusesJointly (f : Flag) : Type 0 where
    pub none_alone : (g : Flag) → RefusesAlone g → ⊥
    pub none_unmet : (c : Condition) → IsUnmet c → ⊥
    pub zeros : IsTrue (binds m f && is_one_of (layout.no_integer_leading_zeros ∷ layout.no_float_leading_zeros ∷ []) f)

  -- `IsRequirement blamed` holds if only requirements refuse `next`, and if the flags `blamed` are those that refuse it alone, or else jointly.
  pub record IsRequirement (blamed : Flag → Bool) : Type 0 where
    pub refused : Allows m front next → ⊥
    pub allowed : Allows (bare m) front next
    pub some : ((f : Flag) × IsTrue (blamed f)) ⊎ ((c : Condition) × IsUnmet c)
    pub each : (f : Flag) → IsTrue (blamed f) ↔ (RefusesAlone f ⊎ RefusesJointly f)

-- `is_at place part f` is true if the flag `f` allows a digit separator in `part` at `place`.
abbrev pub is_at : Place → Part → Flag → Bool
is_at places.BeforeDigits part f = is_one_of ((separators_in part).leading ∷ []) f
is_at places.AfterDigit part f = is_one_of ((separators_in part).internal ∷ (separators_in part).trailing ∷ []) f
is_at places.Consecutive part f = is_one_of ((separators_in part).consecutive ∷ []) f

-- `case_set f m` is the set of the bytes whose case counts if the flag `f` is set.
abbrev pub case_set : Flag → Notation → ByteSet
case_set layout.case_sensitive_exponent m byte = m.exponent_character byte
case_set layout.case_sensitive_base_prefix m byte = m.prefix byte
case_set layout.case_sensitive_base_suffix m byte = m.suffix byte
case_set _ m byte = false

-- The byte `byte` cannot follow the text `front`.
module _ (m : Notation) (front : List ℕ) (byte : ℕ) where
  -- `Permits f` holds if `f` allows digit separators, and `byte` may follow with this one flag more.
  abbrev pub Permits : Flag → Type 0
  Permits f = IsTrue (is_one_of number_separator_flags f) × Allows (adding f (bare m)) front (Some byte)

  -- `IsCaseFlag f` holds if the other case of `byte` may follow, and has a role whose case counts by `f`.
  abbrev pub IsCaseFlag : Flag → Type 0
  IsCaseFlag f = IsTrue (case_set f m (other_case byte)) × Allows (bare m) front (Some (other_case byte))

  -- `IsSeparator part place blamed` holds if a separator in `part` at `place` is not allowed, but is with one of the flags `blamed`.
  pub record IsSeparator (part : Part) (place : Place) (blamed : Flag → Bool) : Type 0 where
    pub refused : Allows (bare m) front (Some byte) → ⊥
    pub some : (f : Flag) × IsTrue (blamed f)
    pub each : (f : Flag) → IsTrue (blamed f) ↔ Permits f
    pub at : (f : Flag) → IsTrue (blamed f) → IsTrue (is_at place part f)

  -- `IsWrongCase blamed` holds if no separator is the cause, and if by the flags `blamed` the case of `byte` counts, whose other case is allowed.
  pub record IsWrongCase (blamed : Flag → Bool) : Type 0 where
    pub refused : Allows (bare m) front (Some byte) → ⊥
    pub no_separator : (f : Flag) → Permits f → ⊥
    pub some : (f : Flag) × IsTrue (blamed f)
    pub each : (f : Flag) → IsTrue (blamed f) ↔ IsCaseFlag f

  -- `IsWrongByte blamed` holds if no requirement is the cause, no separator and no case, and if no flag is `blamed`.
  pub record IsWrongByte (blamed : Flag → Bool) : Type 0 where
    pub refused : Allows (bare m) front (Some byte) → ⊥
    pub no_separator : (f : Flag) → Permits f → ⊥
    pub no_case : (f : Flag) → IsCaseFlag f → ⊥
    pub none : (f : Flag) → blamed f ≡ false

-- `IsMissing m front part blamed` holds if digits of `part` are missing behind `front`, and no flag is to blame.
pub record IsMissing (m : Notation) (front : List ℕ) (part : Part) (blamed : Flag → Bool) : Type 0 where
  pub refused : NoneBy (Reads (bare m)) front
  pub last : part ≡ (if list_any m.exponent_character front then parts.Exponent else (if list_any m.point front then parts.Fraction else parts.Integer))
  pub none : (f : Flag) → blamed f ≡ false

-- `IsCause m front next cause blamed` holds if `cause`, by the flags `blamed`, is why `next` cannot follow `front`, or `front` alone is not a literal.
abbrev pub IsCause : Notation → List ℕ → Option ℕ → ReadErrorKind → (Flag → Bool) → Type 0
IsCause m front next causes.Requirement blamed = IsRequirement m front next blamed
IsCause m front (Some byte) (causes.Separator part place) blamed = IsSeparator m front byte part place blamed
IsCause m front (Some byte) causes.Case blamed = IsWrongCase m front byte blamed
IsCause m front (Some byte) causes.Byte blamed = IsWrongByte m front byte blamed
IsCause m front None (causes.Missing part) blamed = IsMissing m front part blamed
IsCause _ _ _ _ _ = ⊥

-- THE BYTES TO SHOW, AND THE ERROR

-- `index_behind A text` is the index behind the last byte of `text` that is in `A`, or 0 if none is.
abbrev pub index_behind : ByteSet → List ℕ → ℕ
index_behind A [] = 0
index_behind A (byte ∷ text) = if A byte || list_any A text then 1 + index_behind A text else 0

-- `flag_at number` is the flag with the bit `number`, and `lowest mask` that with the lowest bit of `mask`, or `special_digit_separator` if there is none.
abbrev pub flag_at : ℕ → Flag
flag_at number = unwrap_or (find (λ f. bit f == number) layout.flags) layout.special_digit_separator

abbrev pub lowest : ℕ → Flag
lowest mask = flag_at (trailing_zeros w128 mask)

-- `Marks` has the length of a text, and the indexes at which parts of it begin, of which spans and errors are made.
pub record Marks : Type 0 where
  pub size : ℕ
  pub exponent : ℕ
  pub first : ℕ
  pub run : ℕ
  pub group : ℕ

-- `marks_of m front` has the length of `front`, the index behind the last byte that is neither a separator nor a sign, that of the first digit, or
-- else `run`, and those behind the last byte that is not a separator and, where groups have sizes, not a digit.
abbrev pub marks_of : Notation → List ℕ → Marks
marks_of m front = record {
  size = length front;
  exponent = index_behind (λ byte. not (m.separator byte || signs byte)) front;
  first = position_or_len (m.digit parts.Integer) (take (index_behind (λ byte. not (m.separator byte)) front) front);
  run = index_behind (λ byte. not (m.separator byte)) front;
  group = if m.condition conditions.IntegerGroupSize then index_behind (λ byte. not (m.digit parts.Integer byte)) front else 0;
}

-- `is_in A next` is true if `next` is a byte of `A`.
abbrev pub is_in : ByteSet → Option ℕ → Bool
is_in A None = false
is_in A (Some byte) = A byte

-- `wrong_end k next` is the index behind the wrong byte `next`, or the end of the text if bytes are missing.
abbrev pub wrong_end : Marks → Option ℕ → ℕ
wrong_end k None = k.size
wrong_end k (Some byte) = k.size + 1

-- `at start end error` has the first index and the end of the bytes to show, and the error, which has the first index.
abbrev pub at : ℕ → ℕ → (ℕ → Error) → ℕ × ℕ × Error
at start end error = (start, end, error start)

-- `zeros_shown m k next` are the bytes to show for leading zeros: the integer, to which `next` may belong, or `next` if it is a separator.
abbrev pub zeros_shown : Notation → Marks → Option ℕ → ℕ × ℕ × Error
zeros_shown m k next =
    if is_in (m.digit parts.Integer) next then at k.first (wrong_end k next) errors.InvalidLeadingZeros
    else (if is_in m.separator next then at k.size (wrong_end k next) errors.InvalidLeadingZeros else at k.first k.run errors.InvalidLeadingZeros)

-- `flag_shown f m k next` are the bytes to show for the flag `f`, and the error: an exponent, the integer, `next`, or none.
abbrev pub flag_shown : Flag → Notation → Marks → Option ℕ → ℕ × ℕ × Error
flag_shown layout.required_integer_digits m k next = at k.size k.size errors.EmptyInteger
flag_shown layout.required_fraction_digits m k next = at k.size k.size errors.EmptyFraction
flag_shown layout.required_exponent_digits m k next = (k.exponent, k.size, errors.EmptyExponent k.size)
flag_shown layout.required_mantissa_digits m k next = at k.size k.size errors.EmptyMantissa
flag_shown layout.no_positive_mantissa_sign m k next =
    at k.size (wrong_end k next) (if m.integers_only then errors.InvalidPositiveSign else errors.InvalidPositiveMantissaSign)
flag_shown layout.required_mantissa_sign m k next = at k.size k.size (if m.integers_only then errors.MissingSign else errors.MissingMantissaSign)
flag_shown layout.no_exponent_notation m k next = at k.size (wrong_end k next) errors.InvalidExponent
flag_shown layout.no_positive_exponent_sign m k next = at k.size (wrong_end k next) errors.InvalidPositiveExponentSign
flag_shown layout.required_exponent_sign m k next = at k.size k.size errors.MissingExponentSign
flag_shown layout.no_exponent_without_fraction m k next = at k.size (wrong_end k next) errors.ExponentWithoutFraction
flag_shown layout.required_exponent_notation m k next = at k.size k.size errors.MissingExponent
flag_shown _ m k next = zeros_shown m k next

-- `condition_shown c m k next` are the bytes to show for the condition `c`, and the error: none before the integer, the last group, or `next`.
abbrev pub condition_shown : Condition → Notation → Marks → Option ℕ → ℕ × ℕ × Error
condition_shown conditions.BasePrefix m k next = at k.first k.first errors.InvalidDigit
condition_shown conditions.NegativeSign m k next = at k.size (wrong_end k next) errors.InvalidNegativeSign
condition_shown conditions.IntegerGroupSize m k next = at k.group (if is_in (m.digit parts.Integer) next then wrong_end k next else k.size) errors.InvalidDigit
condition_shown _ m k next = at k.size (wrong_end k next) errors.InvalidDigit

-- `first_unmet mask unmet` is the first of the conditions `unmet` if no flag of `mask` is to blame, and `None` otherwise.
abbrev pub first_unmet : ℕ → Conditions → Option Condition
first_unmet mask unmet = if mask == 0 then find (has unmet) all_conditions else None

-- `shown m k next cause f c` are the bytes to show for `cause`, and its lowest flag `f` or its first condition `c`, and the error.
abbrev pub shown : Notation → Marks → Option ℕ → ReadErrorKind → Flag → Option Condition → ℕ × ℕ × Error
shown m k next causes.Requirement f None = flag_shown f m k next
shown m k next causes.Requirement f (Some c) = condition_shown c m k next
shown m k next (causes.Separator part places.Consecutive) f c = at k.size (wrong_end k next) errors.InvalidDigit
shown m k next (causes.Separator part place) f c = at k.run (if is_in m.separator next then wrong_end k next else k.size) errors.InvalidDigit
shown m k next (causes.Missing parts.Integer) f c = at k.size (wrong_end k next) (if k.run == k.size then errors.Empty else errors.InvalidDigit)
shown m k next _ f c = at k.size (wrong_end k next) errors.InvalidDigit

-- `tail_size byte` is the number of bytes that follow `byte` in its character, if it begins one in UTF-8.
abbrev pub tail_size : Option ℕ → ℕ
tail_size None = 0
tail_size (Some byte) = if nat_lt byte 0xC2 then 0 else if nat_lt byte 0xE0 then 1 else if nat_lt byte 0xF0 then 2 else if nat_lt byte 0xF5 then 3 else 0

-- `tail_of text index` has three numbers: the bytes of `text` that follow the one at `index` in its character, and then zeros.
abbrev pub tail_of : List ℕ → ℕ → List ℕ
tail_of text index = take 3 (take (tail_size (slice_get text index)) (drop (index + 1) text) ++ 0 ∷ 0 ∷ 0 ∷ [])

-- `Explained` is an error as contracts see it: its answers, and where reading stopped, of which they are made.
pub record Explained : Type 0 where
  pub refusal : Refusal
  pub spot : Spot

-- `IsRefusal m text error` holds if `error` says how far `text` is right, which byte cannot follow, why, which bytes to show, and which error this is.
pub record IsRefusal (m : Notation) (text : List ℕ) (error : Refusal) : Type 0 where
  pub valid_up_to : IsValidBy (Reads m) text error.valid_up_to
  pub byte : error.byte ≡ slice_get text error.valid_up_to
  pub tail : error.tail ≡ tail_of text error.valid_up_to
  pub cause : IsCause m (take error.valid_up_to text) (slice_get text error.valid_up_to) error.kind (raw error.mask).flag
  pub conditions : (c : Condition) → IsTrue (has error.conditions c) ↔ IsUnmet m (take error.valid_up_to text) (slice_get text error.valid_up_to) c
  -- Conditions have the numbers of the syntax.
  pub numbers : error.conditions ≡ record { numbers = map (λ c. if has error.conditions c then m.number c else 0) all_conditions }
  -- No bit of the mask is set but those of flags.
  pub mask : error.mask ≡ sum_by (λ f. if (raw error.mask).flag f then 2 ^ bit f else 0) layout.flags
  pub shown : (error.start, error.end, error.code)
      ≡ shown m (marks_of m (take error.valid_up_to text)) error.byte error.kind (lowest error.mask) (first_unmet error.mask error.conditions)

-- `SameBlame c d a b` holds if the causes `c` and `d` are the same, and `a` and `b` are true of the same flags.
pub record SameBlame (c d : ReadErrorKind) (a b : Flag → Bool) : Type 0 where
  pub kind : c ≡ d
  pub flags : (f : Flag) → a f ≡ b f
