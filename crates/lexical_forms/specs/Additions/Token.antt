-- What one pass over several forms finds of a token.
use Rattle.std.specs.Prelude.{ℕ, ◌≡◌, ◌+◌, ◌-◌, ◌==◌, ◌&&◌, ◌||◌, not, Bool, if◌then◌else◌, nat_lt, List, Option, Some, None, All, IsNone, IsSomeAnd, IsTrue}
use Rattle.std.specs.Prelude.{◌≤◌, ◌<◌, ◌⊎◌, true, false, drop, get_or, length, option_map, slice_get, take, unwrap_or}
use Rattle.std.specs.Borrow.{Bor}
use Rattle.std.specs.List.{list_any}
use Rattle.lexical_util.specs.Ascii.{ByteSet}
use Rattle.lexical_literal.specs.Cause.{is_in}
use Rattle.lexical_forms.specs.FormList.{FormList, have_openings}
use Rattle.lexical_forms.specs.Additions.Forms.{GoesWithin, LetEnd}
use Rattle.lexical_literal.specs.declared.stop.Begun.{Begun}
use Rattle.lexical_forms.specs.Forms.{Begins, HasFront, ReadsIn}
use Rattle.lexical_literal.specs.Front.{NoneBy}
use Rattle.lexical_literal.specs.Additions.Literal.{AreSums, IsSummed, cut}
use Rattle.lexical_literal.specs.Additions.Step.{cuts_of}
use Rattle.lexical_literal.specs.declared.literal.Sums.{Sums}
use Rattle.lexical_util.specs.Record.{raw}
use Rattle.std.specs.Option.{ForSome}
use Rattle.lexical_forms.specs.Suffix.{is_word_byte, more_of, stop_end, suffix_size, suffix_words}
use Rattle.lexical_forms.specs.declared.suffix.Suffixes.{Suffixes}
use Rattle.lexical_forms.specs.Token.{HasNone, IsAhead, IsCandidate, IsChosen, IsFollowed, IsOver, gives_back, is_alone, is_shorter, is_stopped, tried}
use Rattle.lexical_forms.specs.declared.list.PointsBack.{PointsBack}
use Rattle.lexical_forms.specs.declared.list.Tokens.{Tokens}
use Rattle.lexical_literal.specs.Additions.Scan.{IsDecimal, IsUsual}
use Rattle.lexical_literal.specs.Additions.Stop.{HasBegun, IsMeasured}
use Rattle.lexical_literal.specs.Literal.{Literal, Reads}
use Rattle.lexical_literal.specs.declared.stop.Found.{Found}
use Rattle.lexical_literal.specs.Notation.{Notation, notation_of}
use Rattle.lexical_forms.specs.declared.form.Form.{Form}
use Rattle.lexical_forms.specs.declared.candidate.Candidate.{Candidate}
use Rattle.lexical_forms.specs.declared.candidate.Longest.{Longest}
use Rattle.lexical_forms.specs.declared.token.TokenError.{TokenError}
use Rattle.lexical_forms.specs.declared.token.TokenError.TheVariants as errors

-- `has_float counts` is true if a literal with these lengths of its parts is a float.
abbrev pub has_float : List ℕ → Bool
has_float counts = not (get_or counts 3 0 == 0) || not (get_or counts 5 0 == 0)

-- `IsCounted form text counts` holds if `text` is a literal of `form`, and if `counts` has the lengths of its parts behind the opening.
pub record IsCounted (form : Form) (text counts : List ℕ) : Type 0 where
  pub literal : Literal
  pub opened : Begins form.opening text form.opening.size
  pub reads : Reads (notation_of form.syntax) literal (drop form.opening.size text)
  pub measured : IsMeasured (notation_of form.syntax) (drop form.opening.size text) counts

-- `HasSumsOf form text counts sums` holds if `sums`, if there are any, are those of the literal `text` of `form` whose parts have these lengths.
abbrev pub HasSumsOf : Form → List ℕ → List ℕ → Option Sums → Type 0
HasSumsOf form text counts sums =
    ForSome sums (AreSums (raw form.syntax.word) (cut (drop form.opening.size text) (cuts_of counts)))

-- `is_in_word more byte` is true if `byte` is a byte of a word, or one of `more`, the bytes that words of a form have besides.
abbrev pub is_in_word : List ℕ → ByteSet
is_in_word more byte = list_any (λ it. it == byte) more || is_word_byte byte

-- `IsReady form text c` holds if `text` begins with a literal of `form` that has the size of `c`, the lengths of its parts, and their sums, and if `c` ends
-- in `text`.
pub record IsReady (form : Form) (text : List ℕ) (c : Candidate) : Type 0 where
  pub counted : IsCounted form (take c.size text) c.counts
  pub sums : HasSumsOf form (take c.size text) c.counts c.sums
  pub order : c.size ≤ c.end
  pub within : c.end ≤ length text

-- `IsMade back needs text form c` holds if `c` is the candidate of `form` in `text`, and has the lengths of the parts of its literal.
pub record IsMade (back : PointsBack) (needs : Bool) (text : List ℕ) (form : Form) (c : Candidate) : Type 0 where
  pub candidate : IsCandidate back needs text form c.size c.end
  pub ready : IsReady form text c

-- `IsOwn back form text longest own` holds if `own` has the lengths of the longest front, of `longest` bytes, or of this without its point if
-- that is given back. `NoOwn` holds if there is no such literal.
pub record IsOwn (back : PointsBack) (form : Form) (text : List ℕ) (longest : ℕ) (own : Found) : Type 0 where
  pub within : own.size ≤ length text
  pub size : own.size ≡ (if gives_back back form text longest then longest - 1 else longest)
  pub counted : IsCounted form (take own.size text) own.counts

abbrev pub NoOwn : PointsBack → Form → List ℕ → ℕ → Type 0
NoOwn back form text longest = NoneBy (ReadsIn form) (take (if gives_back back form text longest then longest - 1 else longest) text)

-- `goes_on back m text end stop` is true if a literal that goes up to `stop` goes on behind `end`, and not only with a point that is given back.
abbrev pub goes_on : PointsBack → Notation → List ℕ → ℕ → ℕ → Bool
goes_on back m text end stop = nat_lt end stop && not (is_alone back text end stop && is_in m.point (slice_get text end))

-- `IsPicked list t text index form c` holds if `form`, with this index, has the longest candidate, which is `c`.
pub record IsPicked (list : FormList) (t : Tokens) (text : List ℕ) (index : ℕ) (form : Form) (c : Candidate) : Type 0 where
  pub chosen : IsChosen list t text index form c.size c.end
  pub ready : IsReady form text c

-- `IsWinner list t text found` holds if `found` has the form with the longest candidate, if there is one, and if no literal goes on behind the
-- candidate where the forms go no further.
pub record IsWinner (list : FormList) (t : Tokens) (text : List ℕ) (found : Longest) : Type 0 where
  pub none : found.best ≡ None → HasNone list t text
  pub some : (best : ℕ × Candidate) → found.best ≡ Some best → (form : Form) × IsPicked list t text best.0 form best.1
  pub over : (best : ℕ × Candidate) → found.best ≡ Some best → found.reach ≤ best.1.end → IsOver list t text best.1.end

-- `IsEnd form text index c error` holds if `error` says what follows the candidate `c` of `form`, which has this index: a word, with the suffixes of
-- the form, or another byte.
abbrev pub IsEnd : Form → List ℕ → ℕ → Candidate → TokenError → Type 0
IsEnd form text index c (errors.UnknownSuffix i start end suffixes) = (is_in is_word_byte (slice_get text c.end) ≡ true) × (i ≡ index) × (start ≡ c.size)
    × (end ≡ stop_end (more_of form.suffixes) text c.end) × (suffixes.now ≡ suffix_words form.suffixes (has_float c.counts))
IsEnd form text index c (errors.Stopped i start end) =
    (is_in is_word_byte (slice_get text c.end) ≡ false) × (i ≡ index) × (start ≡ c.end) × (end ≡ stop_end (more_of form.suffixes) text c.end)
IsEnd form text index c _ = ⊥

-- `has_more byte form` is true if `byte` is one that words of `form` have besides, and `go_on_with forms byte` if words of one of `forms` have it.
abbrev pub has_more : ℕ → Form → Bool
has_more byte form = list_any (λ it. it == byte) (more_of form.suffixes)

abbrev pub go_on_with : List Form → ByteSet
go_on_with forms byte = list_any (has_more byte) forms

-- `IsNarrow forms` holds if words of none of `forms` have other bytes than those of any word.
abbrev pub IsNarrow : List Form → Type 0
IsNarrow forms = (byte : ℕ) → go_on_with forms byte ≡ false

-- `whole found size` is `found` if it has `size` bytes, and `None` otherwise.
abbrev pub whole : Option Found → ℕ → Option Found
whole None size = None
whole (Some found) size = if found.size == size then Some found else None

-- `suffixed suffixes needs text own sums` is the candidate with the literal `own` and its sums, or `None` if a suffix is needed and there is none.
abbrev pub suffixed : Option (Bor Suffixes) → Bool → List ℕ → Found → Option Sums → Option Candidate
suffixed suffixes needs text own sums =
    if needs && (suffix_size suffixes (has_float own.counts) (drop own.size text) == 0) then None
    else Some (record {
      size = own.size;
      counts = own.counts;
      sums = sums;
      end = own.size + suffix_size suffixes (has_float own.counts) (drop own.size text);
    })

-- `IsOverFrom back text reach form` holds if no literal of `form` goes on behind `reach` bytes or more.
abbrev pub IsOverFrom : PointsBack → List ℕ → ℕ → Form → Type 0
IsOverFrom back text reach form = (end : ℕ) → reach ≤ end → IsAhead back text end form → ⊥

-- `NoCandidate back needs text form` holds if `form` has no candidate.
abbrev pub NoCandidate : PointsBack → Bool → List ℕ → Form → Type 0
NoCandidate back needs text form = (s e : ℕ) → IsCandidate back needs text form s e → ⊥

-- `HasNoWord text end form` holds if no byte of a word of `form` is at `end`.
abbrev pub HasNoWord : List ℕ → ℕ → Form → Type 0
HasNoWord text end form = is_in (is_in_word (more_of form.suffixes)) (slice_get text end) ≡ false

-- `IsAsked back text it reach candidate` holds if the form of `it` has this candidate, or none, and goes up to `reach` at most.
pub record IsAsked (back : PointsBack) (text : List ℕ) (it : Form × Bool) (reach : ℕ) (candidate : Option Candidate) : Type 0 where
  pub some : ForSome candidate (IsMade back it.1 text it.0)
  pub none : IsNone candidate → NoCandidate back it.1 text it.0
  pub over : IsOverFrom back text reach it.0

-- `is_longer best c` is true if `c` is longer than the best candidate, or if there is none.
abbrev pub is_longer : Option (ℕ × Candidate) → Candidate → Bool
is_longer None c = true
is_longer (Some best) c = is_shorter best.1.size best.1.end c.size c.end

-- `NotLonger best s e` holds if there is a best candidate, and if one of this size and end is not longer.
abbrev pub NotLonger : Option (ℕ × Candidate) → ℕ → ℕ → Type 0
NotLonger None s e = ⊥
NotLonger (Some best) s e = is_shorter best.1.size best.1.end s e ≡ false

-- What is known of the first forms. Candidates of at most `least` bytes do not count.
module _ (list : FormList) (t : Tokens) (text : List ℕ) (least : ℕ) where
  -- `Counts it s e` holds if the form of `it` has this candidate, and it counts, and `NoneLonger best it` if none such is longer than `best`.
  abbrev pub Counts : Form × Bool → ℕ → ℕ → Type 0
  Counts it s e = (least < s) × IsCandidate t.gives_points_back it.1 text it.0 s e

  abbrev pub NoneLonger : Option (ℕ × Candidate) → Form × Bool → Type 0
  NoneLonger best it = (s e : ℕ) → Counts it s e → NotLonger best s e

  -- `IsFirstYet index c` holds if `c` is the candidate of the form with this index, and longer than those before.
  pub record IsFirstYet (index : ℕ) (c : Candidate) : Type 0 where
    pub here : IsSomeAnd (slice_get (tried list t) index) (λ it. IsMade t.gives_points_back it.1 text it.0 c)
    pub long : least < c.size
    pub before : All (λ it. (s e : ℕ) → Counts it s e → is_shorter s e c.size c.end ≡ true) (take index (tried list t))

  -- `IsYet i found` holds if `found` is what is known of the first `i` forms.
  pub record IsYet (i : ℕ) (found : Longest) : Type 0 where
    pub best : ForSome found.best (λ best. IsFirstYet best.0 best.1)
    pub others : All (NoneLonger found.best) (take i (tried list t))
    pub passed : All (λ it. (s e : ℕ) → Counts it s e → s ≤ found.past → NotLonger found.best s e) (tried list t)
    pub low : found.past ≤ unwrap_or (option_map (λ (best : ℕ × Candidate). best.1.end) found.best) least
    pub over : All (λ it. (end : ℕ) → found.reach ≤ end → found.past ≤ end → IsAhead t.gives_points_back text end it.0 → ⊥) (take i (tried list t))
    pub clear : IsTrue found.clear → (best : ℕ × Candidate) × (found.best ≡ Some best) × All (λ it. HasNoWord text best.1.end it.0) (tried list t)

-- `IsAskedFirst list t text asked` holds if the first form goes up to `asked.0` at most, and has the candidate `asked.1`, or none.
abbrev pub IsAskedFirst : FormList → Tokens → List ℕ → ℕ × Option Candidate → Type 0
IsAskedFirst list t text asked = IsSomeAnd (slice_get (tried list t) 0) (λ it. IsAsked t.gives_points_back text it asked.0 asked.1)

-- `IsEnded list t text form end` holds if a word that may follow is behind `end`, or if no literal goes on, and nothing follows that may not.
abbrev pub IsEnded : FormList → Tokens → List ℕ → Form → ℕ → Type 0
IsEnded list t text form end = IsFollowed list t text end
    ⊎ (IsOver list t text end × (is_stopped t form text end ≡ false))

-- `AreBare list t` holds if no form of the list, and none that needs a suffix, has an opening.
abbrev pub AreBare : FormList → Tokens → Type 0
AreBare list t = (have_openings list.forms ≡ false) × (have_openings t.forms.now ≡ false)

-- `IsLast text size form` holds if no literal of `form` begins with more than the first `size` bytes of `text`, and no byte of a word is behind them.
abbrev pub IsLast : List ℕ → ℕ → Form → Type 0
IsLast text size form = GoesWithin text size form × HasNoWord text size form

-- `MayEnd list` holds if the first form is decimal and has no opening, and if no form, of the list or of its tokens, goes on with a byte that ends a number.
-- `IsBegunFirst list text begun` holds if `begun` has been read of this form, too.
pub record MayEnd (list : FormList) : Type 0 where
  pub form : Form
  pub at : slice_get list.forms 0 ≡ Some form
  pub bare : form.opening.size ≡ 0
  pub decimal : IsDecimal (raw form.syntax.word)
  pub usual : IsUsual form.syntax
  pub lets : LetEnd list.forms list.tokens

pub record IsBegunFirst (list : FormList) (text : List ℕ) (begun : Begun) : Type 0 where
  pub may : MayEnd list
  pub found : HasBegun (notation_of may.form.syntax) text begun
  pub summed : IsSummed (raw may.form.syntax.word) text begun

-- `IsEndedAt list text c` holds if the first form has the candidate `c`, without a suffix, and no form, of the list or of its tokens, goes on.
pub record IsEndedAt (list : FormList) (text : List ℕ) (c : Candidate) : Type 0 where
  pub form : Form
  pub at : slice_get list.forms 0 ≡ Some form
  pub end : c.end ≡ c.size
  pub front : HasFront text form c.size
  pub made : (back : PointsBack) → IsMade back false text form c
  pub own : All (IsLast text c.size) list.forms
  pub tokens : ForSome list.tokens (λ t. All (IsLast text c.size) t.now.forms.now)

-- `has_prefix m text index` is true if a zero and a base prefix are at `index`.
abbrev pub has_prefix : Notation → List ℕ → ℕ → Bool
has_prefix m text index = nat_lt (index + 1) (length text) && (get_or text index 0 == 48) && m.prefix (get_or text (index + 1) 0)
