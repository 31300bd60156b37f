-- Which form of a list writes a number, and how the text is read back.
use Rattle.std.specs.Prelude.{ℕ, ◌≡◌, ◌≤◌, ◌-◌, ◌^◌, ◌<◌, ◌==◌, ◌&&◌, ◌||◌, ◌⊎◌, not, if◌then◌else◌, Bool, true, false, is_some, List, [], Err}
use Rattle.std.specs.Prelude.{IfOk, IsSomeAnd, Ok, Option, Result, Some, None, ℤ, ◌++◌, ◌∷◌, is_ok, length, map, min, slice_get, unwrap_or}
use Rattle.std.specs.Borrow.{Bor}
use Rattle.std.specs.Float.{Float, Format, binary64, float_is_infinite}
use lib.Ieee.Exact.{HasValue as HasFraction}
use Rattle.lexical_util.specs.Layout as layout
use Rattle.lexical_util.specs.Record.{bytes_of, raw}
use Rattle.lexical_forms.specs.FormList.{FormList}
use Rattle.lexical_forms.specs.Opening.{spelling}
use Rattle.lexical_forms.specs.Forms.{IsFirst, NoForm}
use Rattle.lexical_forms.specs.Token.{IsReadByTokens}
use Rattle.lexical_forms.specs.declared.form.Form.{Form}
use Rattle.lexical_forms.specs.declared.suffix.Suffixes.{Suffixes}
use Rattle.lexical_forms.specs.declared.token.Token.{Token}
use Rattle.lexical_forms.specs.declared.token.TokenError.{TokenError}
use Rattle.lexical_literal.specs.Notation.{lacks_options}
use Rattle.lexical_literal.specs.Read.{exact, Read}
use Rattle.lexical_literal.specs.Literal.{Literal, is_float, text_of}
use Rattle.lexical_literal.specs.declared.syntax.Grammar.{Grammar}
use Rattle.lexical_literal.specs.declared.kind.FloatKind.TheVariants as floats
use Rattle.lexical_literal.specs.declared.kind.FloatLimits.TheVariants as limits
use Rattle.lexical_number.specs.Float.{is_zero}
use Rattle.lexical_number.specs.Numeral.{with_sign}
use Rattle.lexical_value.specs.Float.{is_binary, is_decimal, nearest}
use Rattle.lexical_value.specs.Kind.{IsWorth, float_worth, integer_worth, is_exact}
use Rattle.lexical_writer.specs.Conversion.{SameFraction}
use Rattle.lexical_writer.specs.declared.choice.Own.{Own}
use Rattle.lexical_writer.specs.declared.layout.WriteError.{WriteError}
use Rattle.lexical_writer.specs.declared.layout.WriteError.TheVariants as errors

-- What a list is asked to write: its own forms, which are asked first; `writes g result`, what is written for it by `g`, or why nothing is;
-- `is g l read`, a literal that the list reads is the number for which `l` of `g` is written; and `keeps own read`, the literal surely is, where `own` is
-- true for a literal of the form that writes the number.
pub record Task : Type 1 where
  pub own : Own
  pub writes : Grammar → Result Literal WriteError → Type 0
  pub is : Grammar → Literal → Read → Type 0
  pub keeps : Bool → Read → Type 0

-- `is_own own g` is true if a form with the syntax `g` is one of a number's own: it has their radix and, for a number that is no integer, floats.
abbrev pub is_own : Own → Grammar → Bool
is_own own g = (raw g.word).byte layout.mantissa_radix == own.radix && (own.integer || not (lacks_options g.options))

-- `is_asked own step form` is true if `form` is asked in a step: in the first one, 0, if it is one of the number's own, and otherwise in the
-- second one. A form that is only read is not asked.
abbrev pub is_asked : Own → ℕ → Form → Bool
is_asked own step form = (if step == 0 then is_own own form.syntax else not (is_own own form.syntax)) && not form.only_read

-- `steps own` is how many steps there are. A number that is rounded is written by its own forms alone.
abbrev pub steps : Own → ℕ
steps own = if own.rounded then 1 else 2

-- `unasked own` is the error of a number for which no form is asked.
abbrev pub unasked : Own → WriteError
unasked own = if own.rounded then errors.Fraction else errors.ReadBack

-- `AreBefore P asked forms step index` holds if `P` holds of each index and form that is asked before the form with this index is asked in this step.
pub record AreBefore (P : ℕ → Form → Type 0) (asked : ℕ → Form → Bool) (forms : List Form) (step index : ℕ) : Type 0 where
  pub each : (before at : ℕ) → (form : Form) → (before < step) ⊎ ((before ≡ step) × (at < index)) → slice_get forms at ≡ Some form
      → asked before form ≡ true → P at form

-- `IsFound P Q own forms` holds if `Q` holds of an index and its form, which is asked, and if `P` holds of an error of each form that is asked before.
abbrev pub IsFound : (ℕ → Form → WriteError → Type 0) → (ℕ → Form → Type 0) → Own → List Form → Type 0
IsFound P Q own forms = (step index : ℕ) × (step < steps own)
    × AreBefore (λ at form. (error : WriteError) × P at form error) (is_asked own) forms step index
    × IsSomeAnd (slice_get forms index) (λ form. (is_asked own step form ≡ true) × Q index form)

-- `IsSearched P asked forms step index reason` holds if `P` holds of an error of each form that is asked before this step and index, and if `reason` is
-- that of the first of them, or `None` if there is none.
pub record IsSearched (P : ℕ → Form → WriteError → Type 0) (asked : ℕ → Form → Bool) (forms : List Form) (step index : ℕ) (reason : Option WriteError)
    : Type 0 where
  pub passed : AreBefore (λ at form. (error : WriteError) × P at form error) asked forms step index
  pub none : reason ≡ None → AreBefore (λ at form. ⊥) asked forms step index
  pub first : (error : WriteError) → reason ≡ Some error → (before at : ℕ) × AreBefore (λ at form. ⊥) asked forms before at
      × IsSomeAnd (slice_get forms at) (λ form. (asked before form ≡ true) × P at form error)

-- `has_floats word` is true if literals of the format `word` can be worth a float.
abbrev pub has_floats : ℕ → Bool
has_floats word = is_decimal (bytes_of word) || is_binary (bytes_of word)

-- `whole_of read` is the sign and the size of the integer that `read` is worth by its kind, or `None` if it is worth none. `has_worth read` is true
-- if `read` is worth an integer or, with a decimal point or an exponent, an `f64`, or if its radix has no floats.
abbrev pub whole_of : Read → Option (Bool × ℕ)
whole_of read = if is_float read.literal then None else integer_worth read.kind.integers (bytes_of read.format) read.literal

abbrev pub has_worth : Read → Bool
has_worth read =
    if is_float read.literal then not (has_floats read.format) || is_ok (float_worth read.kind binary64 (bytes_of read.format) read.literal)
    else is_some (whole_of read)

-- `IsReadElse keeps forms index text error` holds if `forms` read `text`, which the form with this index writes for a number, as a literal that does not
-- surely keep it. `keeps own read` says which do; `own` is true for a literal of this form. `error` is `ReadBack` or, if the literal has no worth, `TooLarge`.
abbrev pub IsReadElse : (Bool → Read → Type 0) → List Form → ℕ → List ℕ → WriteError → Type 0
IsReadElse keeps forms index text error = (at : ℕ) × (read : Read) × IsFirst forms text at read
    × (keeps (at == index) read → ⊥) × (error ≡ (if has_worth read then errors.ReadBack else errors.TooLarge))

-- `has_opening form` is true if a form has an opening.
abbrev pub has_opening : Form → Bool
has_opening form = not (form.opening.size == 0)

-- `bytes_of_word word` has the bytes of a word, if there is one.
abbrev pub bytes_of_word : Option (Bor (Bor (List ℕ))) → Option (List ℕ)
bytes_of_word None = None
bytes_of_word (Some word) = Some word.now.now

-- `words_of suffixes` are the words with which a form writes integers, in their order.
abbrev pub words_of : Option (Bor Suffixes) → List (Bor (List ℕ))
words_of None = []
words_of (Some suffixes) = suffixes.now.written.now

-- `text_by form word l` is the text of the literal `l` of a form, behind its opening, with a word behind it if there is one.
abbrev pub text_by : Form → Option (List ℕ) → Literal → List ℕ
text_by form word l = (spelling form.opening ++ text_of l) ++ unwrap_or word []

-- `is_short error` is true if a text does not fit the buffer, which ends the search.
abbrev pub is_short : WriteError → Bool
is_short (errors.Buffer n) = true
is_short _ = false

-- `IsNoToken keeps list word text error` holds if `error` is `ReadBack`, and the list has no token that is all of `text`, with this suffix, and surely keeps
-- the number.
abbrev pub IsNoToken : (Bool → Read → Type 0) → FormList → List ℕ → List ℕ → WriteError → Type 0
IsNoToken keeps list word text error = (error ≡ errors.ReadBack) × (result : Result Token TokenError) × IsReadByTokens list list.tokens text result
    × IfOk result (λ token. token.suffix.now ≡ word → token.rest.now ≡ [] → keeps false token.literal → ⊥)

-- `IsReadWith list word text P` holds if `text` is a literal of some form of the list or, with a `word`, all of it is a token with this suffix, and if
-- `P` holds of the literal: as it is in the first such form, with the kind of this form, or in the token.
abbrev pub IsReadWith : FormList → Option (List ℕ) → List ℕ → (Read → Type 0) → Type 0
IsReadWith list None text P = (read : Read) × (form : ℕ) × IsFirst list.forms text form read × P read
IsReadWith list (Some word) text P = (token : Token)
    × IsReadByTokens list list.tokens text (Ok token) × (token.suffix.now ≡ word) × (token.rest.now ≡ []) × P token.literal

-- `IsMisread task list index form word text error` holds if `error` is why `text`, which a form writes, is not used: the list reads it as no literal that
-- surely keeps the number or, with a word, has no such token.
abbrev pub IsMisread : Task → FormList → ℕ → Form → Option (List ℕ) → List ℕ → WriteError → Type 0
IsMisread task list index form None text error = IsReadElse (λ own. task.keeps (not (has_opening form) && own)) list.forms index text error
    ⊎ (NoForm list.forms text × (error ≡ errors.ReadBack))
IsMisread task list index form (Some word) text error = IsNoToken task.keeps list word text error

-- `IsWrittenBy task list form word text` holds if `text` is what the form writes for the number, and the list reads it as a literal that is the number.
abbrev pub IsWrittenBy : Task → FormList → Form → Option (List ℕ) → List ℕ → Type 0
IsWrittenBy task list form word text = (l : Literal) × task.writes form.syntax (Ok l) × (text ≡ text_by form word l)
    × IsReadWith list word text (task.is form.syntax l)

-- `ways integer form` are the ways in which a form is asked to write a number, in their order: without a word, and an integer then with the bytes of each
-- of the form's words.
abbrev pub ways : Bool → Form → List (Option (List ℕ))
ways integer form = None ∷ map (λ word. Some word.now) (if integer then words_of form.suffixes else [])

-- These are about what a list is asked to write, and a form of the list, by a buffer with some `room`.
module _ (task : Task) (room : ℕ) (list : FormList) (index : ℕ) (form : Form) where
  -- `IsUnusable word text error` holds if `error` is why `text` is not used: it is longer than the room, or it is misread.
  abbrev pub IsUnusable : Option (List ℕ) → List ℕ → WriteError → Type 0
  IsUnusable word text error =
      (((room < length text) ⊎ (2 ^ 64 - 1 ≤ length text)) × (error ≡ errors.Buffer (min (length text) (2 ^ 64 - 1))))
      ⊎ ((length text ≤ room) × IsMisread task list index form word text error)

  -- `IsRefused word error` holds if `error` is why the form does not write the number, with a word or without: no literal is written for it, or the text
  -- of the one that is written is not used.
  abbrev pub IsRefused : Option (List ℕ) → WriteError → Type 0
  IsRefused word error = task.writes form.syntax (Err error)
      ⊎ ((l : Literal) × task.writes form.syntax (Ok l) × IsUnusable word (text_by form word l) error)

  -- `ArePassed n` holds if the form does not write the number in its first `n` ways, for reasons that do not end the search.
  abbrev pub ArePassed : ℕ → Type 0
  ArePassed n = (at : ℕ) → (word : Option (List ℕ)) → at < n → slice_get (ways task.own.integer form) at ≡ Some word
      → (error : WriteError) × IsRefused word error × (is_short error ≡ false)

  -- `IsReached P` holds if `P` holds of one of the ways, and the form does not write the number in one before.
  abbrev pub IsReached : (Option (List ℕ) → Type 0) → Type 0
  IsReached P = (n : ℕ) × ArePassed n × IsSomeAnd (slice_get (ways task.own.integer form) n) P

  -- `IsStopped error` holds if `error` is that a text of the form is too long, which ends the search.
  abbrev pub IsStopped : WriteError → Type 0
  IsStopped error = (is_short error ≡ true) × IsReached (λ word. IsRefused word error)

  -- `IsPassedOver error` holds if the form does not write the number in any way, and if `error` is why it does not without a word.
  abbrev pub IsPassedOver : WriteError → Type 0
  IsPassedOver error = (is_short error ≡ false) × ArePassed (length (ways task.own.integer form)) × IsRefused None error

  -- `IsChosen word text` holds if the form writes the number as `text`, with a word or without, and does not in a way before.
  abbrev pub IsChosen : Option (List ℕ) → List ℕ → Type 0
  IsChosen word text = IsReached (λ way. way ≡ word) × IsWrittenBy task list form word text

-- `IsWhole z read` holds if `read` is worth the integer `z` by its kind, or an `f64` that is exactly `z`, or -0 for 0.
abbrev pub IsWhole : ℤ → Read → Type 0
IsWhole z read = IsWorth read.kind.integers (bytes_of read.format) read.literal z
    ⊎ ((value : Float) × (negative : Bool) × (size : ℕ) × (z ≡ with_sign negative size) × HasFraction value negative size 1
    × (float_worth read.kind binary64 (bytes_of read.format) read.literal ≡ Ok value))

-- `IsReal f value read` holds if `read` is worth the float `value` of `f` by its kind, or if it is of the exact kind, and `value` is nearest to it.
abbrev pub IsReal : Format → Float → Read → Type 0
IsReal f value read = (float_worth read.kind f (bytes_of read.format) read.literal ≡ Ok value)
    ⊎ ((read.kind ≡ exact) × (value ≡ nearest f (bytes_of read.format) read.literal))

-- `IsKept value decimals read` holds if `read` is worth the nearest float, and if its limits, if there are any, take the float `value`, which is not rounded.
abbrev pub IsKept : Float → Option ℕ → Read → Type 0
IsKept value decimals read = (has_floats read.format ≡ true) × (read.kind.floats ≡ floats.Nearest)
    × ((is_exact read.kind.integers || is_float read.literal) ≡ true)
    × ((read.kind.limits ≡ limits.None) ⊎ ((decimals ≡ None) × (float_is_infinite value ≡ false) × (is_zero value ≡ false)))

-- `IsAmount f value decimals g l read` holds if `read` is worth the float `value` of `f` or, with a number of decimals, the float that is nearest to the literal
-- `l` of `g`, which is written for `value`.
abbrev pub IsAmount : Format → Float → Option ℕ → Grammar → Literal → Read → Type 0
IsAmount f value None g l read = IsReal f value read
IsAmount f value (Some n) g l read = IsReal f (nearest f (bytes_of g.word) l) read

-- `IsSameNumber a b` holds if `a` and `b` are worth the same integer or, if `a` has a decimal point or an exponent, the same `f64`, by their kinds. Or they are
-- of the exact kind, and have the same value as fractions with a sign, and `b` has neither a decimal point nor an exponent unless `a` has one.
abbrev pub IsSameNumber : Read → Read → Type 0
IsSameNumber a b = ((z : ℤ) × IsWhole z a × IsWhole z b)
    ⊎ (((is_float a.literal ≡ true) × (value : Float) × IsReal binary64 value a × IsReal binary64 value b)
    ⊎ ((a.kind ≡ exact) × (b.kind ≡ exact) × ((is_float a.literal ≡ true) ⊎ (is_float b.literal ≡ false))
    × SameFraction (raw a.format) a.literal (raw b.format) b.literal))

-- `IsKeptNumber a own b` holds if `a` and `b` are worth the same integer of at most 128 bits or, if `own` is true, if both are of the exact kind, and
-- `b` has neither a decimal point nor an exponent unless `a` has one.
abbrev pub IsKeptNumber : Read → Bool → Read → Type 0
IsKeptNumber a own b = ((w : Bool × ℕ) × (w.1 < 2 ^ 128) × (whole_of a ≡ Some w) × (whole_of b ≡ Some w))
    ⊎ ((own ≡ true) × (a.kind ≡ exact) × (b.kind ≡ exact) × ((is_float a.literal ≡ true) ⊎ (is_float b.literal ≡ false)))
