-- Tokens: numbers that a text begins with, each with its suffix, and whatever follows.
use Rattle.std.specs.Prelude.{All, Bool, Err, IsSomeAnd, IsTrue, List, None, Ok, Option, Result, Some, [], drop, false, if◌then◌else◌, length, map, nat_lt}
use Rattle.std.specs.Prelude.{not, option_map, slice_get, take, true, unwrap_or, ℕ, ◌&&◌, ◌++◌, ◌+◌, ◌-◌, ◌<◌, ◌==◌, ◌||◌, ◌≡◌, ◌⊎◌}
use Rattle.std.specs.Borrow.{Bor}
use Rattle.std.specs.Char.{is_ascii_alphabetic, is_ascii_digit}
use Rattle.std.specs.List.{list_any}
use Rattle.lexical_util.specs.Ascii.{ByteSet}
use Rattle.lexical_literal.specs.Cause.{is_in}
use Rattle.lexical_forms.specs.FormList.{FormList}
use Rattle.lexical_forms.specs.Forms.{HasFront, IsFormError, IsGreatest, NoForm, ReadsIn}
use Rattle.lexical_literal.specs.Front.{IsValidBy}
use Rattle.lexical_literal.specs.Literal.{Literal, is_float}
use Rattle.lexical_literal.specs.Notation.{notation_of}
use Rattle.lexical_forms.specs.Suffix.{byte_before, is_followed, is_word_byte, kind_with, meets, more_of, stop_end, suffix_size, suffix_words, word_size}
use Rattle.lexical_forms.specs.declared.form.Form.{Form}
use Rattle.lexical_forms.specs.declared.list.PointsBack.{PointsBack}
use Rattle.lexical_forms.specs.declared.list.PointsBack.TheVariants as points
use Rattle.lexical_forms.specs.declared.list.Tokens.{Tokens}
use Rattle.lexical_forms.specs.declared.suffix.Suffixes.{Suffixes}
use Rattle.lexical_forms.specs.declared.token.Token.{Token}
use Rattle.lexical_forms.specs.declared.token.TokenError.{TokenError}
use Rattle.lexical_forms.specs.declared.token.TokenError.TheVariants as errors

-- `takes_point back byte` is true if a point before `byte` is given back, as `back` tells: before a point or a byte of a word, or before a letter.
abbrev pub takes_point : PointsBack → ByteSet
takes_point points.Never byte = false
takes_point points.ToWords byte = (byte == 46) || is_word_byte byte
takes_point points.ToLetters byte = is_ascii_alphabetic byte

-- `gives_back back form text size` is true if the first `size` bytes of `text` end in a point that is given back.
abbrev pub gives_back : PointsBack → Form → List ℕ → ℕ → Bool
gives_back back form text size =
    is_in (notation_of form.syntax).point (byte_before text size) && is_in (takes_point back) (slice_get text size)

-- `is_alone back text end size` is true if no byte of a literal that goes up to `size` is behind the point at `end`, or, in a list that gives
-- points back to letters, one letter that begins a name, before another one or a point, as in `1.eq.2`.
abbrev pub is_alone : PointsBack → List ℕ → ℕ → ℕ → Bool
is_alone points.Never text end size = false
is_alone points.ToWords text end size = size == end + 1
is_alone points.ToLetters text end size = (size == end + 1) || ((size == end + 2) && is_in is_ascii_alphabetic (slice_get text (end + 1))
    && is_in (λ byte. (byte == 46) || is_ascii_alphabetic byte) (slice_get text (end + 2)))

-- `IsCandidate back needs text form size end` holds if the longest front of `text` that is a literal of `form`, without its point if that is given back,
-- has `size` bytes and is such a literal, and if `end` is behind its longest suffix, which is there if `needs` is true.
pub record IsCandidate (back : PointsBack) (needs : Bool) (text : List ℕ) (form : Form) (size end : ℕ) : Type 0 where
  pub longest : ℕ
  pub front : HasFront text form longest
  pub size_is : size ≡ (if gives_back back form text longest then longest - 1 else longest)
  pub literal : Literal
  pub reads : ReadsIn form literal (take size text)
  pub end_is : end ≡ size + suffix_size form.suffixes (is_float literal) (drop size text)
  pub suffixed : IsTrue needs → size < end

-- `is_shorter size end other_size other_end` is true if a candidate ends before another, or where it ends and with a shorter literal.
abbrev pub is_shorter : ℕ → ℕ → ℕ → ℕ → Bool
is_shorter size end other_size other_end = nat_lt end other_end || ((end == other_end) && nat_lt size other_size)

-- `tried list t` lists the forms of the list, and then those that need a suffix, each with whether it does.
abbrev pub tried : FormList → Tokens → List (Form × Bool)
tried list t = map (λ form. (form, false)) list.forms ++ map (λ form. (form, true)) t.forms.now

-- `IsAhead back text end form` holds if some literal of `form` begins with more than the first `end` bytes of `text`, and not only with a
-- point that stands alone in a list that gives points back.
pub record IsAhead (back : PointsBack) (text : List ℕ) (end : ℕ) (form : Form) : Type 0 where
  pub size : ℕ
  pub valid : IsValidBy (ReadsIn form) text size
  pub further : end < size
  pub more : (is_alone back text end size && is_in (notation_of form.syntax).point (slice_get text end)) ≡ false

-- `is_stopped t form text end` is true if what is behind the number of `form` that ends at `end` may not follow it: a stop of the form, or a byte of a word,
-- but only a digit if the list lets any word follow, and the number does not end in the decimal point of the form.
abbrev pub is_stopped : Tokens → Form → List ℕ → ℕ → Bool
is_stopped t form text end =
    let words = t.any_word_follows && not (is_in (notation_of form.syntax).point (byte_before text end)) in
    is_in (if words then is_ascii_digit else is_word_byte) (slice_get text end)
    || list_any (meets text end) (unwrap_or (option_map (λ (it : Bor Suffixes). it.now.stops.now) form.suffixes) [])

-- `part_size text stop` is the number of bytes up to the end of the word at `stop`, and at least 1 unless `text` is empty.
abbrev pub part_size : List ℕ → ℕ → ℕ
part_size text stop = let end = stop + word_size [] (drop stop text) in if (end == 0) && nat_lt 0 (length text) then 1 else end

-- Forms of a list, and those that need a suffix, whose indexes are behind.
module _ (list : FormList) (t : Tokens) (text : List ℕ) where
  -- `IsChosen index form size end` holds if `form`, with this index, is the first that has the longest candidate.
  pub record IsChosen (index : ℕ) (form : Form) (size end : ℕ) : Type 0 where
    pub needs : Bool
    pub at : slice_get (tried list t) index ≡ Some (form, needs)
    pub own : IsCandidate t.gives_points_back needs text form size end
    pub before : All (λ it. (s e : ℕ) → IsCandidate t.gives_points_back it.1 text it.0 s e → is_shorter s e size end ≡ true) (take index (tried list t))
    pub others : All (λ it. (s e : ℕ) → IsCandidate t.gives_points_back it.1 text it.0 s e → is_shorter size end s e ≡ false) (tried list t)

  -- `IsFollowed end` holds if a word that may follow a number is behind `end`.
  abbrev pub IsFollowed : ℕ → Type 0
  IsFollowed end = IsTrue (is_followed t.following.now (drop end text))

  -- `IsOver end` holds if no literal of a form of the list goes on behind `end`.
  abbrev pub IsOver : ℕ → Type 0
  IsOver end = All (λ form. IsAhead t.gives_points_back text end form → ⊥) list.forms

  -- `IsToken token` holds if `token` has the longest candidate, its opening, kind and suffix, and the rest of `text`, which a word may be that may follow; if
  -- not, no literal goes on, and nothing follows that may not.
  pub record IsToken (token : Token) : Type 0 where
    pub form : Form
    pub size : ℕ
    pub end : ℕ
    pub chosen : IsChosen token.form form size end
    pub literal : (token.literal.format ≡ form.syntax.word) × ReadsIn form token.literal.literal (take size text)
    pub kind : token.literal.kind ≡ kind_with form.suffixes token.suffix.now form.kind
    pub opened : token.literal.opened ≡ form.opening.size
    pub suffix : token.suffix.now ≡ take (end - size) (drop size text)
    pub rest : token.rest.now ≡ drop end text
    pub ended : IsFollowed end ⊎ (IsOver end × (is_stopped t form text end ≡ false))

  -- `IsCut index form size end digit` holds if `form`, with this index, has the longest candidate, no word that may follow is behind it and no literal
  -- goes on, and what follows may not: directly behind a literal without a suffix a digit, if `digit` is true, or something else.
  pub record IsCut (index : ℕ) (form : Form) (size end : ℕ) (digit : Bool) : Type 0 where
    pub chosen : IsChosen index form size end
    pub not_followed : IsFollowed end → ⊥
    pub over : IsOver end
    pub stopped : is_stopped t form text end ≡ true
    pub digit_is : ((size == end) && is_in is_ascii_digit (slice_get text size)) ≡ digit

  -- `HasNone` holds if no form has a candidate, and `IsRefused` if none has one, if a literal goes on behind the longest, or if a digit is directly
  -- behind it. Then a form is to blame.
  abbrev pub HasNone : Type 0
  HasNone = All (λ it. (s e : ℕ) → IsCandidate t.gives_points_back it.1 text it.0 s e → ⊥) (tried list t)

  abbrev pub IsRefused : Type 0
  IsRefused = HasNone ⊎ ((index : ℕ) × (form : Form) × (size : ℕ) × (end : ℕ) × (IsCut index form size end true ⊎ (IsChosen index form size end
      × (IsFollowed end → ⊥) × (i : ℕ) × IsSomeAnd (slice_get list.forms i) (IsAhead t.gives_points_back text end))))

  -- `IsPartUpTo size` holds if `size` is the size of the part up to the word where the form of the list stops that goes furthest in `text`.
  abbrev pub IsPartUpTo : ℕ → Type 0
  IsPartUpTo size = (index : ℕ) × (stop : ℕ) × IsGreatest (λ form. IsValidBy (ReadsIn form) text) list.forms index stop × (size ≡ part_size text stop)

  -- `IsTokenError error` holds if `error` says why `text` begins with no token: a form is to blame, or behind the longest candidate a word follows that
  -- is not one of the suffixes of its form, and ends at `end`, or a byte that may not follow, and then maybe a word.
  abbrev pub IsTokenError : TokenError → Type 0
  IsTokenError errors.NoTokens = ⊥
  IsTokenError (errors.Literal error) = IsRefused × ((size : ℕ) × IsPartUpTo size × IsFormError list.forms (take size text) error)
  IsTokenError (errors.NotAToken end) = IsRefused × IsPartUpTo end × (NoForm list.forms (take end text) → ⊥)
  IsTokenError (errors.UnknownSuffix index start end suffixes) = (form : Form) × (behind : ℕ) × IsCut index form start behind false
      × (is_in is_word_byte (slice_get text behind) ≡ true) × (end ≡ stop_end (more_of form.suffixes) text behind)
      × ((l : Literal) × ReadsIn form l (take start text) × (suffixes.now ≡ suffix_words form.suffixes (is_float l)))
  IsTokenError (errors.Stopped index start end) = (form : Form) × (size : ℕ) × IsCut index form size start false
      × (is_in is_word_byte (slice_get text start) ≡ false) × (end ≡ stop_end (more_of form.suffixes) text start)

-- `IsReadByTokens list tokens text result` holds if `result` is the token that `text` begins with, or says why there is none: without rules, there
-- are no tokens.
abbrev pub IsReadByTokens : FormList → Option (Bor Tokens) → List ℕ → Result Token TokenError → Type 0
IsReadByTokens list None text result = result ≡ Err errors.NoTokens
IsReadByTokens list (Some t) text (Ok token) = IsToken list t.now text token
IsReadByTokens list (Some t) text (Err error) = IsTokenError list t.now text error
