-- Tokens: the best of the candidates of several forms.
use Rattle.lexical_forms.proofs.Common.{Bool, Candidate, Form, FormList, Found, GoesTo, HasLengths, HasSumsOf, IfSome, IsAhead, IsCandidate, IsChosen}
use Rattle.lexical_forms.proofs.Common.{IsCounted, IsCut, IsEnd, IsFirst, IsFollowed, IsFrontIn, IsMade, IsMeasured, IsNone, IsOver, IsOwn, IsPicked}
use Rattle.lexical_forms.proofs.Common.{IsRefused, IsSomeAnd, IsToken, IsTokenError, IsTrue, List, Literal, NoCandidate, NoForm, NoOwn, None, NoneBy}
use Rattle.lexical_forms.proofs.Common.{NonePast, Option, PointsBack, Read, ReadsForm, ReadsIn, Some, Token, Tokens, [], ap, arith, cuts_of, drop, false}
use Rattle.lexical_forms.proofs.Common.{gives_back, goes_on, has_float, if◌then◌else◌, inl, inr, is_ascii_digit, is_float, is_in, is_shorter, is_stopped}
use Rattle.lexical_forms.proofs.Common.{is_word_byte, kind_with, length, length-take-le, more_of, nat_tests, notation_of, refl, slice_get, stop_end, subst}
use Rattle.lexical_forms.proofs.Common.{suffix_size, suffix_words, suffixed, sym, take, take_all, true, whole, ℕ, ◌&&◌, ◌+◌, ◌-◌, ◌<◌, ◌==◌, ◌||◌, ◌∙◌, ◌∷◌}
use Rattle.lexical_forms.proofs.Common.{◌≡◌, ◌≤◌, ◌⊎◌}
use Rattle.lexical_forms.specs.declared.token.TokenError.{TokenError}
use Rattle.lexical_literal.specs.declared.literal.Sums.{Sums}
use Rattle.lexical_forms.specs.declared.token.TokenError.TheVariants as errors
use Rattle.lexical_forms.proofs.FormLemmas.{all_at}
use Rattle.lexical_forms.proofs.BehindLemmas.{front_in, inner_is, none_empty_in}
use Rattle.lexical_forms.proofs.OpeningLemmas.{one_front, one_valid}
use Rattle.lexical_literal.proofs.MadeLemmas.{present}

-- The order of candidates, each with the length of its literal and its end.
pub none_below : (a b : ℕ) → is_shorter a b a b ≡ false
none_below a b = grind (arith, nat_tests)

pub below_up : (a b s e c d : ℕ) → is_shorter a b s e ≡ false → is_shorter a b c d ≡ true → is_shorter s e c d ≡ true
below_up a b s e c d old up = grind (arith, nat_tests)

pub above_up : (a b s e c d : ℕ) → is_shorter a b s e ≡ false → is_shorter a b c d ≡ true → is_shorter c d s e ≡ false
above_up a b s e c d old up = grind (arith, nat_tests)

-- Whether a literal is a float is told by the lengths of its parts.
pub float_is : (l : Literal) (counts : List ℕ) → HasLengths l (cuts_of counts) → has_float counts ≡ is_float l
float_is l counts is = λ j. present _ _ is.point j || present _ _ is.exponent_character j

pub float_in : (form : Form) (text counts : List ℕ) → IsCounted form text counts → (l : Literal) → ReadsIn form l text → has_float counts ≡ is_float l
float_in form text counts is l reads = float_is l counts (is.measured.counted l reads.1)

-- A form has one candidate.
module _ (back : PointsBack) (needs : Bool) (text : List ℕ) (form : Form) (c : Candidate) (made : IsMade back needs text form c) (s e : ℕ)
    (other : IsCandidate back needs text form s e) where
  same_longest : other.longest ≡ made.candidate.longest
  same_longest =
      let a = made.candidate.front in let b = other.front in
      let up = one_front (ReadsIn form) text a.0 b.0 made.candidate.longest other.longest a.1 b.1 in
      let down = one_front (ReadsIn form) text b.0 a.0 other.longest made.candidate.longest b.1 a.1 in omega (arith, up, down)

  pub same_size : s ≡ c.size
  same_size = other.size_is
      ∙ ap (λ n. if gives_back back form text n then n - 1 else n) same_longest ∙ sym made.candidate.size_is

  same_float : is_float other.literal ≡ is_float made.candidate.literal
  same_float =
      let read = subst (λ n. ReadsIn form other.literal (take n text)) same_size other.reads in
      sym (float_in form (take c.size text) c.counts made.ready.counted other.literal read)
      ∙ float_in form (take c.size text) c.counts made.ready.counted made.candidate.literal made.candidate.reads

  pub same_end : e ≡ c.end
  same_end = other.end_is
      ∙ ap (λ n. n + suffix_size form.suffixes (is_float other.literal) (drop n text)) same_size
      ∙ ap (λ b. c.size + suffix_size form.suffixes b (drop c.size text)) same_float ∙ sym made.candidate.end_is

-- Options, and what two tests tell together.
abbrev from_some : {X : Type 0} → X → Option X → X
from_some d None = d
from_some d (Some x) = x

pub some_is : {X : Type 0} (v x : X) → Some v ≡ Some x → v ≡ x
some_is v x same = ap (from_some v) same

pub for_some : {X : Type 0} (P : X → Type 0) (v : X) → P v → (x : X) → Some v ≡ Some x → P x
for_some P v is x same = subst P (some_is v x same) is

pub no_some : {X : Type 0} (x : X) → None ≡ Some x → ⊥
no_some x same = grind arith

pub none_is : {X : Type 0} (o : Option X) → IsNone o → o ≡ None
none_is None none = refl
none_is (Some x) none = grind arith

pub is_none : {X : Type 0} (o : Option X) → o ≡ None → IsNone o
is_none None none = refl
is_none (Some x) none = absurd (no_some x (sym none))

pub not_both : (b : Bool) → b ≡ false → IsTrue b → ⊥
not_both b off on = grind arith

both_hold : (b : Bool) (n : ℕ) → (b && (n == 0)) ≡ true → IsTrue b × (n ≡ 0)
both_hold b n on = (grind (arith, nat_tests), grind (arith, nat_tests))

more_than_none : (b : Bool) (n s : ℕ) → (b && (n == 0)) ≡ false → IsTrue b → s < s + n
more_than_none b n s off on = grind (arith, nat_tests)

-- A literal has a byte.
pub literal_size : (form : Form) (text : List ℕ) (l : Literal) → ReadsIn form l text → 0 < length text
literal_size form [] l reads = absurd (none_empty_in form l reads)
literal_size form (byte ∷ text) l reads = omega arith

-- The parts of a front are counted behind the opening.
counted_in : (form : Form) (text : List ℕ) (found : Found) → IsFrontIn text found form → IsCounted form (take found.size text) found.counts
counted_in form text found is =
    let inside = inner_is form text found is (take found.size text) _ refl refl in let reads = (front_in form text found is).reads in record {
      literal = is.front.literal;
      opened = reads.0;
      reads = reads.1;
      measured = subst (λ t. IsMeasured (notation_of form.syntax) t found.counts) (sym inside)
          (record { literal = (is.front.literal, is.front.reads.reads); counted = is.front.counted });
    }

pub front_some : (form : Form) (text : List ℕ) (found : Option Found) → IfSome found (λ found. (0 < found.size) × IsFrontIn text found form)
    → (g : Found) → found ≡ Some g → IsFrontIn text g form
front_some form text found is g same = (subst (λ o. IfSome o (λ found. (0 < found.size) × IsFrontIn text found form)) same is).1

-- A front has a byte.
pub some_byte : (form : Form) (text : List ℕ) (found : Found) → IsFrontIn text found form → 0 < found.size
some_byte form text found is =
    let front = front_in form text found is in
    let size = literal_size form (take found.size text) is.front.literal front.reads in
    let long = length-take-le found.size text front.within in omega (arith, size, long)

-- There may be no sums.
pub no_sums : (form : Form) (text counts : List ℕ) → HasSumsOf form text counts None
no_sums form text counts sums same = absurd (no_some sums same)

-- The front of `text` that is left if its point is given back.
module _ (back : PointsBack) (form : Form) (text : List ℕ) (found : Found) (is : IsFrontIn text found form) where
  within : found.size ≤ length text
  within = (front_in form text found is).within

  pub kept : gives_back back form text found.size ≡ false → IsOwn back form text found.size found
  kept off = record { within = within; size = ap (λ b. if b then found.size - 1 else found.size) (sym off); counted = counted_in form text found is }

  module _ (on : gives_back back form text found.size ≡ true) (shorter : List ℕ) (at : shorter ≡ take (found.size - 1) text) where
    size_of : length shorter ≡ found.size - 1
    size_of = ap length at ∙ length-take-le (found.size - 1) text (omega (arith, within))

    size_is : length shorter ≡ (if gives_back back form text found.size then found.size - 1 else found.size)
    size_is = size_of ∙ ap (λ b. if b then found.size - 1 else found.size) (sym on)

    all_of : take (length shorter) text ≡ shorter
    all_of = ap (λ n. take n text) size_of ∙ sym at

    pub cut_short : (own : Option Found) → ((found : Found) → own ≡ Some found → IsFrontIn shorter found form)
        → (f : Found) → whole own (length shorter) ≡ Some f → IsOwn back form text found.size f
    cut_short None some f none = grind arith
    cut_short (Some g) some f same = go (g.size == length shorter) refl same where
      go : (b : Bool) → (g.size == length shorter) ≡ b → (if b then Some g else None) ≡ Some f → IsOwn back form text found.size f
      go true whole same =
          let is_g : g ≡ f = grind arith in
          let size : g.size ≡ length shorter = grind (arith, nat_tests) in
          let part : take g.size shorter ≡ take g.size text =
          take_all g.size shorter (omega (arith, size)) ∙ sym all_of ∙ ap (λ n. take n text) (sym size) in
          subst (IsOwn back form text found.size) is_g (record {
            within = omega (arith, size, size_of, within);
            size = size ∙ size_is;
            counted = subst (λ t. IsCounted form t g.counts) part (counted_in form shorter g (some g refl));
          })
      go false whole same = grind arith

    pub cut_none : (own : Option Found) → ((found : Found) → own ≡ Some found → IsFrontIn shorter found form) → (own ≡ None → NonePast shorter 0 form)
        → whole own (length shorter) ≡ None → NoOwn back form text found.size
    cut_none own some none is_none l reads = go own refl is_none where
      all : take (length shorter) shorter ≡ shorter
      all = take_all (length shorter) shorter (omega arith)

      read : ReadsIn form l (take (length shorter) shorter)
      read = subst (ReadsIn form l) (ap (λ n. take n text) (sym size_is) ∙ all_of ∙ sym all) reads

      some_byte : 0 < length shorter
      some_byte = literal_size form shorter l (subst (ReadsIn form l) all read)

      go : (o : Option Found) → own ≡ o → whole o (length shorter) ≡ None → ⊥
      go None at_none is_none = none at_none (length shorter) some_byte (omega arith) l read
      go (Some g) at_some is_none =
          let front = front_in form shorter g (some g at_some) in
          let inside = front.within in
          let apart : g.size < length shorter = grind (arith, nat_tests) in
          front.no_longer (length shorter) apart (omega arith) l read

-- A form has a candidate, or none.
module _ (back : PointsBack) (needs : Bool) (text : List ℕ) (form : Form) (found : Found) (is : IsFrontIn text found form) where
  longest_is : (s e : ℕ) → (other : IsCandidate back needs text form s e) → other.longest ≡ found.size
  longest_is s e other =
      let front = front_in form text found is in
      let up = one_front (ReadsIn form) text is.front.literal other.front.0 found.size other.longest front other.front.1 in
      let down = one_front (ReadsIn form) text other.front.0 is.front.literal other.longest found.size other.front.1 front in
      omega (arith, up, down)

  pub without_own : NoOwn back form text found.size → NoCandidate back needs text form
  without_own none s e other =
      let size : s ≡ (if gives_back back form text found.size then found.size - 1 else found.size) =
      other.size_is ∙ ap (λ n. if gives_back back form text n then n - 1 else n) (longest_is s e other) in
      none other.literal (subst (λ n. ReadsIn form other.literal (take n text)) size other.reads)

  module _ (own : Found) (owned : IsOwn back form text found.size own) where
    abbrev more : ℕ
    more = suffix_size form.suffixes (has_float own.counts) (drop own.size text)

    abbrev own_with : Option Sums → Candidate
    own_with sums = record { size = own.size; counts = own.counts; sums = sums; end = own.size + more }

    candidate_of : (IsTrue needs → own.size < own.size + more) → IsCandidate back needs text form own.size (own.size + more)
    candidate_of enough = record {
      longest = found.size;
      front = (is.front.literal, front_in form text found is);
      size_is = owned.size;
      literal = owned.counted.literal;
      reads = (owned.counted.opened, owned.counted.reads);
      end_is = ap (λ b. own.size + suffix_size form.suffixes b (drop own.size text))
          (float_in form (take own.size text) own.counts owned.counted owned.counted.literal (owned.counted.opened, owned.counted.reads));
      suffixed = enough;
    }

    end_of : (s e : ℕ) → IsCandidate back needs text form s e → (s ≡ own.size) × (e ≡ own.size + more)
    end_of s e other =
        let size : s ≡ own.size = other.size_is
        ∙ ap (λ n. if gives_back back form text n then n - 1 else n) (longest_is s e other) ∙ sym owned.size in
        let read = subst (λ n. ReadsIn form other.literal (take n text)) size other.reads in
        let float = sym (float_in form (take own.size text) own.counts owned.counted other.literal read) in (
          size,
          other.end_is ∙ ap (λ n. n + suffix_size form.suffixes (is_float other.literal) (drop n text)) size
              ∙ ap (λ b. own.size + suffix_size form.suffixes b (drop own.size text)) float,
        )

    pub with_suffix : (sums : Option Sums) → HasSumsOf form (take own.size text) own.counts sums
        → (candidate : Option Candidate) → candidate ≡ suffixed form.suffixes needs text own sums
        → ((c : Candidate) → candidate ≡ Some c → c.end ≤ length text) → (c : Candidate) → candidate ≡ Some c → IsMade back needs text form c
    with_suffix sums are candidate same within c some = go (needs && (more == 0)) refl (sym same ∙ some) where
      go : (b : Bool) → (needs && (more == 0)) ≡ b → (if b then None else Some (own_with sums)) ≡ Some c → IsMade back needs text form c
      go true on none = absurd (no_some c none)
      go false off is_c =
          let e = some_is (own_with sums) c is_c in
          subst (IsMade back needs text form) e (record {
            candidate = candidate_of (λ needed. more_than_none needs more own.size off needed);
            ready = record {
              counted = owned.counted;
              sums = are;
              order = omega arith;
              within = subst (λ (c : Candidate). c.end ≤ length text) (sym e) (within c some);
            };
          })

    pub without_suffix : (sums : Option Sums) → suffixed form.suffixes needs text own sums ≡ None → NoCandidate back needs text form
    without_suffix sums none s e other = go (needs && (more == 0)) refl none where
      go : (b : Bool) → (needs && (more == 0)) ≡ b → (if b then None else Some (own_with sums)) ≡ None → ⊥
      go true on none =
          let at = end_of s e other in
          let needed = both_hold needs more on in
          let longer = other.suffixed needed.0 in omega (arith, longer, at.0, at.1, needed.1)
      go false off none = no_some _ (sym none)

-- Whether a form goes on behind `end`.
module _ (back : PointsBack) (text : List ℕ) (end : ℕ) (form : Form) (stop : ℕ) (valid : GoesTo text form stop) where
  pub ahead : goes_on back (notation_of form.syntax) text end stop ≡ true → IsAhead back text end form
  ahead on = record { size = stop; valid = valid; further = grind (arith, nat_tests); more = grind (arith, nat_tests) }

  pub not_ahead : goes_on back (notation_of form.syntax) text end stop ≡ false → IsAhead back text end form → ⊥
  not_ahead off is =
      let same : is.size ≡ stop = one_valid (ReadsIn form) text is.size stop is.valid valid in
      let further = is.further in let more = is.more in grind (arith, nat_tests)

-- A text that is a literal of a form is one of a form.
pub some_form : (forms : List Form) (text : List ℕ) (i : ℕ) (read : Read) → IsFirst forms text i read → NoForm forms text → ⊥
some_form forms text i read is none = go (slice_get forms i) refl is.reads where
  go : (o : Option Form) → slice_get forms i ≡ o → IsSomeAnd o (ReadsForm text read) → ⊥
  go None at reads = reads
  go (Some form) at reads = all_at (λ form. NoneBy (ReadsIn form) text) forms i form at none read.literal reads.2

module _ (list : FormList) (t : Tokens) (text : List ℕ) where
  -- The token that was picked, or why there is none.
  module _ (index : ℕ) (form : Form) (c : Candidate) (is : IsPicked list t text index form c) where
    pub token_is : (token : Token) → token.form ≡ index → (token.literal.format ≡ form.syntax.word) × ReadsIn form token.literal.literal (take c.size text)
        → token.literal.kind ≡ kind_with form.suffixes token.suffix.now form.kind → token.literal.opened ≡ form.opening.size
        → token.suffix.now ≡ take (c.end - c.size) (drop c.size text) → token.rest.now ≡ drop c.end text
        → IsFollowed list t text c.end ⊎ (IsOver list t text c.end × (is_stopped t form text c.end ≡ false))
        → IsToken list t text token
    token_is token same literal kind opened suffix rest ended = record {
      form = form;
      size = c.size;
      end = c.end;
      chosen = subst (λ n. IsChosen list t text n form c.size c.end) (sym same) is.chosen;
      literal = literal;
      kind = kind;
      opened = opened;
      suffix = suffix;
      rest = rest;
      ended = ended;
    }

    module _ (apart : IsFollowed list t text c.end → ⊥) where
      pub gone_on : (i : ℕ) × IsSomeAnd (slice_get list.forms i) (IsAhead t.gives_points_back text c.end) → IsRefused list t text
      gone_on ahead = inr (index, form, c.size, c.end, inr (is.chosen, apart, ahead.0, ahead.1))

      module _ (over : IsOver list t text c.end) (stopped : is_stopped t form text c.end ≡ true) where
        cut : (digit : Bool) → ((c.size == c.end) && is_in is_ascii_digit (slice_get text c.size)) ≡ digit → IsCut list t text index form c.size c.end digit
        cut digit same = record { chosen = is.chosen; not_followed = apart; over = over; stopped = stopped; digit_is = same }

        pub before_digit : ((c.size == c.end) && is_in is_ascii_digit (slice_get text c.size)) ≡ true → IsRefused list t text
        before_digit digit = inr (index, form, c.size, c.end, inl (cut true digit))

        module _ (other : ((c.size == c.end) && is_in is_ascii_digit (slice_get text c.size)) ≡ false) where
          pub ended : (error : TokenError) → IsEnd form text index c error → IsTokenError list t text error
          ended (errors.UnknownSuffix i start end suffixes) e =
              let l = is.ready.counted.literal in
              let reads : ReadsIn form l (take c.size text) = (is.ready.counted.opened, is.ready.counted.reads) in
              let here = sym e.2 in (
                form,
                c.end,
                subst (λ n. IsCut list t text n form start c.end false) (sym e.1)
                    (subst (λ n. IsCut list t text index form n c.end false) here (cut false other)),
                e.0,
                e.3,
                (
                  l,
                  subst (λ n. ReadsIn form l (take n text)) here reads,
                  e.4 ∙ ap (suffix_words form.suffixes) (float_in form (take c.size text) c.counts is.ready.counted l reads),
                ),
              )
          ended (errors.Stopped i start end) e =
              let here = sym e.2 in (
                form,
                c.size,
                subst (λ n. IsCut list t text n form c.size start false) (sym e.1)
                    (subst (λ n. IsCut list t text index form c.size n false) here (cut false other)),
                subst (λ n. is_in is_word_byte (slice_get text n) ≡ false) here e.0,
                subst (λ n. end ≡ stop_end (more_of form.suffixes) text n) here e.3,
              )
          ended errors.NoTokens e = absurd e
          ended (errors.Literal error) e = absurd e
          ended (errors.NotAToken end) e = absurd e
