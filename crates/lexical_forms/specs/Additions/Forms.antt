-- What one pass over several forms finds.
use Rattle.std.specs.Prelude.{ℕ, ◌≡◌, ◌-◌, ◌<◌, ◌≤◌, ◌⊎◌, false, if◌then◌else◌, nat_lt, IfErr, IfOk, IsErr, IsSomeAnd, IsTrue, List, Option}
use Rattle.std.specs.Prelude.{◌==◌, ◌&&◌, ◌||◌, not, Bool, get_or, Some, None, Result, All, drop, length, slice_get, take, [], ◌∷◌, option_map, true, unwrap_or}
use Rattle.std.specs.Borrow.{Bor}
use Rattle.std.specs.List.{AllByRecursion, list_any}
use Rattle.std.specs.Option.{ForSome}
use Rattle.lexical_forms.specs.Suffix.{more_of}
use Rattle.lexical_forms.specs.declared.list.Tokens.{Tokens}
use Rattle.lexical_util.specs.Ascii.{ByteSet}
use Rattle.lexical_util.specs.Layout as layout
use Rattle.lexical_util.specs.Roles.{other_case}
use Rattle.lexical_util.specs.declared.feature_format.roles.Role.{Role}
use Rattle.lexical_util.specs.declared.feature_format.roles.Role.TheVariants as roles
use Rattle.lexical_literal.specs.Additions.Stop.{IsCountedFront, IsStopped, IsWithin}
use Rattle.lexical_forms.specs.Forms.{Begins, HasFront, IsFirst, IsFormError, IsGreatest, NoForm, Reaches, ReadsIn, reach, sign_size}
use Rattle.lexical_literal.specs.Front.{BeginsBy, IsValidBy, NoFrontBy, NoLiteral, NoneBy}
use Rattle.lexical_literal.specs.Read.{Read}
use Rattle.lexical_literal.specs.Notation.{Notation, notation_of, set_of_role}
use Rattle.lexical_literal.specs.declared.syntax.Condition.TheVariants as conditions
use Rattle.lexical_forms.specs.declared.list.FormError.{FormError}
use Rattle.lexical_forms.specs.declared.list.Furthest.{Furthest}
use Rattle.lexical_literal.specs.declared.stop.Found.{Found}
use Rattle.lexical_literal.specs.declared.stop.Stopped.{Stopped}
use Rattle.lexical_forms.specs.declared.opening.Opening.{Opening}
use Rattle.lexical_forms.specs.declared.form.Form.{Form}

-- `special_separator m` is the digit separator if special values may have it, and the empty set otherwise.
abbrev pub special_separator : Notation → ByteSet
special_separator m byte = m.flag layout.special_digit_separator && m.separator byte

-- `behind form text` is what follows as many bytes of `text` as the opening of `form` has.
abbrev pub behind : Form → List ℕ → List ℕ
behind form text = drop form.opening.size text

-- `spells opening index byte` is true if `byte` is the byte of `opening` with this index or, unless its case counts, the other case of this byte.
abbrev pub spells : Opening → ℕ → ℕ → Bool
spells opening index byte =
    (byte == get_or opening.bytes index 0) || (not opening.case_sensitive && (byte == other_case (get_or opening.bytes index 0)))

-- `IsOpened opening text` holds if `text` begins with `opening`.
abbrev pub IsOpened : Opening → List ℕ → Type 0
IsOpened opening text = Begins opening text opening.size

-- `IsOpenedTo opening text size` holds if `text` begins with the first `size` bytes of `opening`, and not with more.
pub record IsOpenedTo (opening : Opening) (text : List ℕ) (size : ℕ) : Type 0 where
  pub inside : size ≤ opening.size
  pub begins : Begins opening text size
  pub differs : size < opening.size → size < length text → spells opening size (get_or text size 0) ≡ false

-- `GoesTo text form size` holds if some literal of `form` begins with the first `size` bytes of `text`, and none with more.
abbrev pub GoesTo : List ℕ → Form → ℕ → Type 0
GoesTo text form = IsValidBy (ReadsIn form) text

-- `further furthest form size` is `furthest`, or the form with the index `form` if it goes further, up to `size`.
abbrev pub further : Option (ℕ × ℕ) → ℕ → ℕ → Option (ℕ × ℕ)
further None form size = Some (form, size)
further (Some best) form size = if nat_lt best.1 size then Some (form, size) else Some best

-- `PlaysNoRole m byte` holds if `byte` plays no role, and is not the zero of a prefix.
pub record PlaysNoRole (m : Notation) (byte : ℕ) : Type 0 where
  pub not_zero : byte ≡ 48 → ⊥
  pub none : (role : Role) → set_of_role m role byte ≡ false

-- `is_end byte` is true if `byte` ends a number, unless a form goes on with it, and `ends_at text size` if `text` ends behind the first `size` bytes, or
-- such a byte follows.
abbrev pub is_end : ByteSet
is_end byte = list_any (λ it. it == byte) (9 ∷ 10 ∷ 13 ∷ 32 ∷ 41 ∷ 42 ∷ 44 ∷ 47 ∷ 59 ∷ 61 ∷ 93 ∷ 125 ∷ [])

abbrev pub ends_at : List ℕ → ℕ → Bool
ends_at text size = unwrap_or (option_map is_end (slice_get text size)) true

-- `IsOutside form byte` holds if `byte` plays no role in `form`, and is neither in its opening nor in a word behind it, `LetsEnd form` if no byte is that
-- ends a number, and `LetEnd forms tokens` if this holds of all forms, of a list and of its tokens.
pub record IsOutside (form : Form) (byte : ℕ) : Type 0 where
  pub role : PlaysNoRole (notation_of form.syntax) byte
  pub opening : (not (form.opening.size == 0) && list_any (λ it. it == byte) form.opening.bytes) ≡ false
  pub word : list_any (λ it. it == byte) (more_of form.suffixes) ≡ false

abbrev pub LetsEnd : Form → Type 0
LetsEnd form = (byte : ℕ) → IsTrue (is_end byte) → IsOutside form byte

pub record LetEnd (forms : List Form) (tokens : Option (Bor Tokens)) : Type 0 where
  pub own : AllByRecursion LetsEnd forms
  pub needing : ForSome tokens (λ t. AllByRecursion LetsEnd t.now.forms.now)

-- `IsSpare m byte` holds if `byte` plays no role, or is only the base prefix.
abbrev pub IsSpare : Notation → ℕ → Type 0
IsSpare m byte = (role : Role) → (role ≡ roles.Prefix → ⊥) → set_of_role m role byte ≡ false

-- `AreFalse test byte` holds if `test` is false of `byte` and of its other case.
abbrev pub AreFalse : ByteSet → ℕ → Type 0
AreFalse test byte = (test byte ≡ false) × (test (other_case byte) ≡ false)

-- `IsStranger m byte` holds if `byte` plays no role behind the base prefix, and its other case neither.
abbrev pub IsStranger : Notation → ℕ → Type 0
IsStranger m byte = IsSpare m byte × IsSpare m (other_case byte)

-- `LacksZero m text` holds if literals begin with a zero behind their sign, since a base prefix or a leading zero is required, and `text` does not.
pub record LacksZero (m : Notation) (text : List ℕ) : Type 0 where
  pub required : IsTrue (m.condition conditions.BasePrefix) ⊎ IsTrue (m.condition conditions.LeadingZero)
  pub other : get_or text (sign_size text) 0 ≡ 48 → ⊥

-- `IsSilent m byte` holds if `byte` plays no role, and its other case neither.
abbrev pub IsSilent : Notation → ℕ → Type 0
IsSilent m byte = PlaysNoRole m byte × PlaysNoRole m (other_case byte)

-- `IsExcluded m text size` holds if `text` is not a literal, and the syntax goes up to `size` at most.
pub record IsExcluded (m : Notation) (text : List ℕ) (size : ℕ) : Type 0 where
  pub inside : size ≤ length text
  pub none : NoLiteral m text
  pub within : IsWithin m text size
  pub there : reach m text size ≤ size

-- `IsStoppedBefore text stop g` holds if reading stops at `stop` in the opening of the form `g`. `IsStoppedBehind text stop g` holds if the opening is
-- there, and if what is behind it is not a literal, and reading it stops at `stop`. `IsRefusedAt text stop g` holds if one of them does.
pub record IsStoppedBefore (text : List ℕ) (stop : Stopped) (g : Form) : Type 0 where
  pub opened : IsOpenedTo g.opening text stop.size
  pub short : stop.size < g.opening.size

pub record IsStoppedBehind (text : List ℕ) (stop : Stopped) (g : Form) : Type 0 where
  pub opened : IsOpened g.opening text
  pub past : g.opening.size ≤ stop.size
  pub stopped : IsStopped (notation_of g.syntax) (behind g text) (record stop { size = stop.size - g.opening.size })
  pub none : NoLiteral (notation_of g.syntax) (behind g text)

abbrev pub IsRefusedAt : List ℕ → Stopped → Form → Type 0
IsRefusedAt text stop g = GoesTo text g stop.size × (IsStoppedBefore text stop g ⊎ IsStoppedBehind text stop g)

-- `IsInside g text part` holds if `text` is the opening of `g`, and then `part`.
pub record IsInside (g : Form) (text part : List ℕ) : Type 0 where
  pub opened : IsOpened g.opening text
  pub is : part ≡ behind g text

-- `GoesWithin text size g` holds if no literal of the form `g` begins with more than the first `size` bytes of `text`.
abbrev pub GoesWithin : List ℕ → ℕ → Form → Type 0
GoesWithin text size g = (more : ℕ) → size < more → more ≤ length text → BeginsBy (ReadsIn g) (take more text) → ⊥

-- `IsLow text size g` holds if the form `g` goes up to `size` at most, and `IsPassed g text size` if `text` is not a literal of it, too, and no literal begins
-- with more bytes.
abbrev pub IsLow : List ℕ → ℕ → Form → Type 0
IsLow text size g = (n : ℕ) → Reaches text g n → n ≤ size

pub record IsPassed (g : Form) (text : List ℕ) (size : ℕ) : Type 0 where
  pub none : NoneBy (ReadsIn g) text
  pub within : GoesWithin text size g
  pub low : IsLow text size g

-- `ArePassed forms text asked limit` holds if each of the first `asked` forms is known to go less far than `limit`.
abbrev pub ArePassed : List Form → List ℕ → ℕ → ℕ → Type 0
ArePassed forms text asked limit = (k : ℕ) (d : Form) → k < asked → (size : ℕ) × (size < limit) × IsPassed (get_or forms k d) text size

-- `IsBest P forms asked limit index n` holds if `P` holds of the form with this index and of `n`, and if `P` holds, of the first `asked` forms, of none before
-- and as great a number, and of none and a greater one, where numbers below `limit` do not count.
pub record IsBest (P : Form → ℕ → Type 0) (forms : List Form) (asked limit index n : ℕ) : Type 0 where
  pub here : IsSomeAnd (slice_get forms index) (λ form. P form n)
  pub inside : index < asked
  pub each : (k : ℕ) (d : Form) → k < asked → (m : ℕ) → P (get_or forms k d) m → limit ≤ m → (m ≤ n) × (k < index → m < n)

-- `Leads forms text asked limit best` holds if the form of `best` stops there, and goes furthest of the first `asked` forms, up to its reach, where forms that
-- go less far than `limit` do not count.
pub record Leads (forms : List Form) (text : List ℕ) (asked limit : ℕ) (best : Furthest) : Type 0 where
  pub here : IsSomeAnd (slice_get forms best.form) (IsRefusedAt text best.stop)
  pub furthest : IsBest (Reaches text) forms asked limit best.form best.reach

-- `IsLed forms text asked limit furthest` holds if `furthest` leads the first `asked` forms, or if it is `None`, and they are passed over.
abbrev pub IsLed : List Form → List ℕ → ℕ → ℕ → Option Furthest → Type 0
IsLed forms text asked limit None = ArePassed forms text asked limit
IsLed forms text asked limit (Some best) = Leads forms text asked limit best

-- `IsPast best bound` holds if `best` goes beyond `bound`, or up to there as the first form.
abbrev pub IsPast : Furthest → ℕ → Type 0
IsPast best bound = (bound < best.reach) ⊎ ((best.form ≡ 0) × (bound ≡ best.reach))

-- `IsFoundForm forms text result` holds if `result` has the first form of which `text` is a literal and the literal, or if `text` is a literal
-- of no form, and `result` leads them.
pub record IsFoundForm (forms : List Form) (text : List ℕ) (result : Result (ℕ × Read) Furthest) : Type 0 where
  pub found : IfOk result (λ found. IsFirst forms text found.0 found.1 × IsSomeAnd (slice_get forms found.0) (λ form. found.1.opened ≡ form.opening.size))
  pub none : IsErr result → NoForm forms text
  pub furthest : IfErr result (Leads forms text (length forms) 0)

-- `NoFrontPast m text size` holds if no front of `text` with more than `size` bytes is a literal, and `NonePast text size g` if none is one of the form `g`.
-- `IsFrontIn text found g` holds if `found` has the longest front that is a literal of `g`, and the lengths of its parts behind the opening.
abbrev pub NoFrontPast : Notation → List ℕ → ℕ → Type 0
NoFrontPast m text size = (more : ℕ) → size < more → more ≤ length text → NoLiteral m (take more text)

abbrev pub NonePast : List ℕ → ℕ → Form → Type 0
NonePast text size g = (more : ℕ) → size < more → more ≤ length text → NoneBy (ReadsIn g) (take more text)

pub record IsFrontIn (text : List ℕ) (found : Found) (g : Form) : Type 0 where
  pub opened : IsOpened g.opening text
  pub past : g.opening.size ≤ found.size
  pub front : IsCountedFront (notation_of g.syntax) (behind g text) (record found { size = found.size - g.opening.size })

-- `IsLongestPast forms text size longest` holds if `longest` has the longest front of `text` with more than `size` bytes that is a literal of a
-- form, of the first form of equals, or if it is `None`, and there is no such front.
pub record IsFirstPast (forms : List Form) (text : List ℕ) (size index : ℕ) (found : Found) : Type 0 where
  pub longest : IsGreatest (HasFront text) forms index found.size
  pub counted : IsSomeAnd (slice_get forms index) (IsFrontIn text found)
  pub past : size < found.size

abbrev pub IsLongestPast : List Form → List ℕ → ℕ → Option (ℕ × Found) → Type 0
IsLongestPast forms text size None = All (NonePast text size) forms
IsLongestPast forms text size (Some best) = IsFirstPast forms text size best.0 best.1

-- `IsFoundFrontForm forms text result` holds if `result` has the longest front of `text` that is a literal of a form, of the
-- first form of equals, and the lengths of its parts, or the error of a text for which there is no such front.
pub record IsFoundFrontForm (forms : List Form) (text : List ℕ) (result : Result (ℕ × Found) FormError) : Type 0 where
  pub longest : IfOk result (λ found. IsGreatest (HasFront text) forms found.0 found.1.size)
  pub found : IfOk result (λ found. IsSomeAnd (slice_get forms found.0) (IsFrontIn text found.1))
  pub error : IfErr result (λ error. All (λ g. NoFrontBy (ReadsIn g) text) forms × IsFormError forms text error)
