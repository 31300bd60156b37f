-- Several forms of numbers: which form has a text, and which error a text has that is of no form.
use Rattle.std.specs.Prelude.{ℕ, ◌≡◌, ◌+◌, ◌<◌, ◌≤◌, if◌then◌else◌, IfErr, IsSomeAnd, List, Option, Some, None, Result, Ok, Err, All}
use Rattle.std.specs.Prelude.{drop, length, option_and_then, option_map, slice_get, take, ◌==◌, ◌||◌, not, ◌&&◌, true, get_or, nat_lt, ◌-◌, [], ◌∷◌}
use Rattle.std.specs.Result.{result_ok}
use Rattle.std.specs.Borrow.{Bor}
use Rattle.lexical_literal.specs.Cause.{Explained, IsRefusal, is_in, tail_of}
use Rattle.lexical_literal.specs.Front.{IsValidBy, NoFrontBy, NoneBy, ReadsFrontBy}
use Rattle.lexical_literal.specs.Literal.{Literal, Reads}
use Rattle.lexical_literal.specs.Notation.{Notation, notation_of}
use Rattle.lexical_literal.specs.Read.{Read}
use Rattle.lexical_forms.specs.Specials.{special_of}
use Rattle.lexical_forms.specs.FormList.{FormList}
use Rattle.lexical_literal.specs.declared.cause.Refusal.{Refusal}
use Rattle.lexical_forms.specs.declared.form.Form.{Form}
use Rattle.lexical_forms.specs.declared.list.FormError.{FormError}
use Rattle.lexical_forms.specs.declared.list.Number.{Number}
use Rattle.lexical_forms.specs.declared.list.Number.TheVariants as numbers
use Rattle.lexical_forms.specs.declared.specials.Special.{Special}
use Rattle.lexical_util.specs.Ascii.{ByteSet}
use Rattle.lexical_util.specs.Roles.{other_case, signs}
use Rattle.lexical_forms.specs.declared.opening.Opening.{Opening}

-- `Begins opening text size` holds if the first `size` bytes of `text` are those of `opening`, each in either case unless its case counts.
pub record Begins (opening : Opening) (text : List ℕ) (size : ℕ) : Type 0 where
  pub within : size ≤ length text
  pub each : (index : ℕ) → index < size → ((get_or text index 0 == get_or opening.bytes index 0)
      || (not opening.case_sensitive && (get_or text index 0 == other_case (get_or opening.bytes index 0)))) ≡ true

-- `ReadsIn form l text` holds if `text` is a literal of `form` with the parts of `l`: the opening, and then a literal of the syntax.
abbrev pub ReadsIn : Form → Literal → List ℕ → Type 0
ReadsIn form l text = Begins form.opening text form.opening.size × Reads (notation_of form.syntax) l (drop form.opening.size text)

-- `IsErrorIn form text opened error` holds if the opening is there and has `opened` bytes, and `error` says why what is behind it is not a literal of the
-- syntax, or if `error` is `None`, and the opening is not there: a literal of `form` begins with `opened` bytes of `text`, and with no more.
abbrev pub IsErrorIn : Form → List ℕ → ℕ → Option Refusal → Type 0
IsErrorIn form text opened None = IsValidBy (ReadsIn form) text opened × (Begins form.opening text form.opening.size → ⊥)
IsErrorIn form text opened (Some error) = (opened ≡ form.opening.size) × Begins form.opening text form.opening.size
    × IsRefusal (notation_of form.syntax) (drop form.opening.size text) error

-- `HasFront text form size` holds if the longest front of `text` that is a literal of `form` has `size` bytes.
abbrev pub HasFront : List ℕ → Form → ℕ → Type 0
HasFront text form size = (l : Literal) × ReadsFrontBy (ReadsIn form) l text size

-- `ReadsForm text read form` holds if `text` is the literal `read` of `form`, and has its kind.
abbrev pub ReadsForm : List ℕ → Read → Form → Type 0
ReadsForm text read form = (read.format ≡ form.syntax.word) × (read.kind ≡ form.kind) × ReadsIn form read.literal text

-- `NoForm forms text` holds if `text` is a literal of none of `forms`.
abbrev pub NoForm : List Form → List ℕ → Type 0
NoForm forms text = All (λ form. NoneBy (ReadsIn form) text) forms

-- `IsFirst forms text index read` holds if `text` is the literal `read` of the form with this index, and of no form before it.
pub record IsFirst (forms : List Form) (text : List ℕ) (index : ℕ) (read : Read) : Type 0 where
  pub reads : IsSomeAnd (slice_get forms index) (ReadsForm text read)
  pub before : NoForm (take index forms) text

-- `IsGreatest P forms index n` holds if `P` holds of the form with this index and of `n`, of none before and as great a number, and of none and a greater one.
pub record IsGreatest (P : Form → ℕ → Type 0) (forms : List Form) (index n : ℕ) : Type 0 where
  pub here : IsSomeAnd (slice_get forms index) (λ form. P form n)
  pub before : All (λ form. (other : ℕ) → P form other → other < n) (take index forms)
  pub others : All (λ form. (other : ℕ) → P form other → other ≤ n) forms

-- `sign_size text` is the length of the sign with which `text` begins.
abbrev pub sign_size : List ℕ → ℕ
sign_size [] = 0
sign_size (byte ∷ text) = if signs byte then 1 else 0

-- `is_other_prefix m byte` is true if `byte` is the base prefix in its other case alone.
abbrev pub is_other_prefix : Notation → ByteSet
is_other_prefix m byte = not (m.prefix byte) && m.prefix (other_case byte)

-- `reach m text size` is `size`, or 1 more if the first `size` bytes of `text` are a sign, if any, and a zero, and the base prefix in its other case is next.
abbrev pub reach : Notation → List ℕ → ℕ → ℕ
reach m text size = if (size == sign_size text + 1) && ((get_or text (size - 1) 0 == 48) && is_in (is_other_prefix m) (slice_get text size)) then size + 1 else size

-- `reached form text size` is the same behind the opening of `form`, and `size` where this is not there.
abbrev pub reached : Form → List ℕ → ℕ → ℕ
reached form text size = if nat_lt size form.opening.size then size
    else form.opening.size + reach (notation_of form.syntax) (drop form.opening.size text) (size - form.opening.size)

-- `Reaches text form n` holds if `form` goes up to `n` in `text`: to the most bytes with which some literal of `form` begins, where the base prefix in its
-- other case counts as one byte more.
abbrev pub Reaches : List ℕ → Form → ℕ → Type 0
Reaches text form n = (size : ℕ) × IsValidBy (ReadsIn form) text size × (n ≡ reached form text size)

-- `refusal_in error` is why what is behind the opening is not a literal, or `None` if the opening is not there.
abbrev pub refusal_in : FormError → Option Refusal
refusal_in error = option_map (λ (it : Explained). it.refusal) (result_ok error.error)

-- `IsErrorOfForm text error form` holds if `error` has the name of `form`, and says why `text` is not a literal of it, or which byte is not of its opening.
pub record IsErrorOfForm (text : List ℕ) (error : FormError) (form : Form) : Type 0 where
  pub name : error.name.now ≡ form.name.now
  pub refusal : IsErrorIn form text error.opened (refusal_in error)
  pub unopened : IfErr error.error (λ it. (it.byte ≡ slice_get text error.opened) × (it.tail ≡ tail_of text error.opened) × (it.opening ≡ form.opening))

-- `IsFormError forms text error` holds if `error` is that of the first form that goes furthest in `text`.
pub record IsFormError (forms : List Form) (text : List ℕ) (error : FormError) : Type 0 where
  pub furthest : (n : ℕ) × IsGreatest (Reaches text) forms error.form n
  pub refusal : IsSomeAnd (slice_get forms error.form) (IsErrorOfForm text error)

-- `special_by list text` is the special value that `text` is by the flags and conditions of the first form, or `None`.
abbrev pub special_by : FormList → List ℕ → Option Special
special_by list text = option_and_then (λ (form : Form). special_of (notation_of form.syntax) list.specials text) (slice_get list.forms 0)

-- `IsReadByForms list text result` holds if `result` is the literal `text` of the first form that has it, and the index of this form, or, if `text` is a
-- literal of no form, the special value `text`, or else the error of `text`.
abbrev pub IsReadByForms : FormList → List ℕ → Result Number FormError → Type 0
IsReadByForms list text (Ok (numbers.Literal literal form)) =
    IsFirst list.forms text form literal × IsSomeAnd (slice_get list.forms form) (λ it. literal.opened ≡ it.opening.size)
IsReadByForms list text (Ok (numbers.Special special)) = NoForm list.forms text × (special_by list text ≡ Some special)
IsReadByForms list text (Err error) = NoForm list.forms text × (special_by list text ≡ None) × IsFormError list.forms text error

-- `IsFrontByForms list text result` holds if `result` has the longest front of `text` that is a literal of a form, of the first form of equals, with its
-- index, and the rest of `text`, or the error of a text for which there is no such front.
abbrev pub IsFrontByForms : FormList → List ℕ → Result (Number × Bor (List ℕ)) FormError → Type 0
IsFrontByForms list text (Ok (numbers.Literal literal form, rest)) = (size : ℕ) × IsGreatest (HasFront text) list.forms form size
    × IsSomeAnd (slice_get list.forms form) (λ it. ReadsForm (take size text) literal it × (literal.opened ≡ it.opening.size)) × (rest.now ≡ drop size text)
IsFrontByForms list text (Ok (numbers.Special special, rest)) = ⊥
IsFrontByForms list text (Err error) = All (λ form. NoFrontBy (ReadsIn form) text) list.forms × IsFormError list.forms text error
