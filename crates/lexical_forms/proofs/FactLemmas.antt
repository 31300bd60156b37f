-- What the parts of a token are, and which tokens are a whole text.
use Rattle.lexical_forms.proofs.Common.{AreBare, Bool, Bor, Form, FormList, IsCandidate, IsFirst, IsSomeAnd, IsToken, List, Literal, None, Option, Reads}
use Rattle.lexical_forms.proofs.Common.{ReadsForm, ReadsIn, Some, Token, Tokens, [], ap, arith, drop, drop-drop, false, false≢true, get_or, gives_back}
use Rattle.lexical_forms.proofs.Common.{if◌then◌else◌, is_float, is_in, is_shorter, kind_with, length, length-drop, length-take, min, more_of, nat_tests}
use Rattle.lexical_forms.proofs.Common.{notation_of, refl, slice_get, slice_get_past, subst, suffix_size, sym, take, take-append-drop, take_all, takes_point}
use Rattle.lexical_forms.proofs.Common.{text_of, tried, true, word_size, ℕ, ◌&&◌, ◌++◌, ◌+◌, ◌-◌, ◌∙◌, ◌∷◌, ◌≡◌, ◌≤◌}
use Rattle.lexical_forms.specs.declared.suffix.Suffixes.{Suffixes}
use Rattle.lexical_forms.proofs.FormLemmas.{all_at}
use Rattle.lexical_forms.proofs.LongestLemmas.{all_tried, before_at, first_below, first_of}
use Rattle.lexical_forms.proofs.LeadingLemmas.{IsBare, are_bare, less_or_same, suffix_within}
use Rattle.lexical_forms.proofs.BehindLemmas.{plain_of}

-- A form has no suffix at the end of a text.
no_more : (form : Form) (float : Bool) (text : List ℕ) (size : ℕ) → length text ≤ size → suffix_size form.suffixes float (drop size text) ≡ 0
no_more form float text size past =
    let less = suffix_within form.suffixes float (drop size text) in
    let none = no_word (drop size text) (let left = length-drop size text in omega (arith, left, past)) in omega (arith, less, none) where
      no_word : (text : List ℕ) → length text ≡ 0 → word_size (more_of form.suffixes) text ≡ 0
      no_word [] none = refl
      no_word (byte ∷ text) none = absurd (omega (arith, none))

kept : (a b : Bool) → b ≡ false → (a && b) ≡ false
kept a b is = grind arith

module _ (list : FormList) (t : Tokens) (text : List ℕ) (token : Token) (is : IsToken list t text token) where
  -- The form has a candidate, which needs a suffix or not.
  candidate : IsCandidate t.gives_points_back is.chosen.needs text is.form is.size is.end
  candidate = is.chosen.own

  module _ (bare : AreBare list t) where
    own_bare : IsBare is.form
    own_bare = all_at (λ (it : Form × Bool). IsBare it.0) (tried list t) token.form (is.form, is.chosen.needs) is.chosen.at
        (all_tried IsBare list t (are_bare list.forms bare.0) (are_bare t.forms.now bare.1))

    reads_plain : Reads (notation_of is.form.syntax) token.literal.literal (take is.size text)
    reads_plain = plain_of is.form (take is.size text) own_bare token.literal.literal is.literal.1

    pub parts_are : text ≡ text_of token.literal.literal ++ (token.suffix.now ++ token.rest.now)
    parts_are =
        let end = candidate.end_is in
        let sum : is.size + (is.end - is.size) ≡ is.end = omega (arith, end) in
        sym (take-append-drop is.size text)
        ∙ (λ j. reads_plain.whole j ++ sym (take-append-drop (is.end - is.size) (drop is.size text)) j)
        ∙ (λ j. text_of token.literal.literal ++ (sym is.suffix j ++ (drop-drop (is.end - is.size) is.size text ∙ ap (λ k. drop k text) sum ∙ sym is.rest) j))

  -- The whole text is the literal, if it has neither a suffix nor a rest.
  module _ (no_suffix : token.suffix.now ≡ []) (no_rest : token.rest.now ≡ []) where
    past : length text ≤ is.size
    past =
        let behind : length text - is.end ≡ 0 = sym (length-drop is.end text) ∙ ap length (sym is.rest ∙ no_rest) in
        let more : min (is.end - is.size) (length (drop is.size text)) ≡ 0 =
        sym (length-take (is.end - is.size) (drop is.size text)) ∙ ap length (sym is.suffix ∙ no_suffix) in
        let left = length-drop is.size text in omega (arith, behind, more, left)

    end : is.end ≡ is.size
    end = candidate.end_is ∙ (let none = no_more is.form (is_float candidate.literal) text is.size past in omega (arith, none))

    -- A form that reads the text has it as a candidate.
    whole : (form : Form) (l : Literal) → ReadsIn form l text → IsCandidate t.gives_points_back false text form (length text) (length text)
    whole form l read =
        let all = subst (ReadsIn form l) (sym (take_all (length text) text (omega arith))) read in record {
          longest = length text;
          front = (l, record { within = omega arith; reads = all; no_longer = λ more past inside. absurd (omega (arith, past, inside)) });
          size_is = ap (λ b. if b then length text - 1 else length text) (sym (kept _ _
              (ap (is_in (takes_point t.gives_points_back)) (slice_get_past text (length text) (omega arith)))));
          literal = l;
          reads = all;
          end_is = let none = no_more form (is_float l) text (length text) (omega arith) in omega (arith, none);
          suffixed = λ needed. absurd (false≢true needed);
        }

    size : is.size ≤ length text
    size =
        let longest = candidate.front.1.within in
        let own = candidate.size_is in
        let less = less_or_same (gives_back t.gives_points_back is.form text candidate.longest) candidate.longest in
        omega (arith, longest, own, less)

    -- Without a suffix, it has the kind of the form.
    kind : token.literal.kind ≡ is.form.kind
    kind = is.kind ∙ ap (λ word. kind_with is.form.suffixes word is.form.kind) no_suffix ∙ own is.form.suffixes where
      own : (suffixes : Option (Bor Suffixes)) → kind_with suffixes [] is.form.kind ≡ is.form.kind
      own None = refl
      own (Some it) = refl

    pub is_whole : IsFirst list.forms text token.form token.literal
    is_whole = of is.chosen.needs is.chosen.at is.chosen.own where
      of : (needs : Bool) → slice_get (tried list t) token.form ≡ Some (is.form, needs)
          → IsCandidate t.gives_points_back needs text is.form is.size is.end → IsFirst list.forms text token.form token.literal
      of false at own = record {
        reads = subst (λ o. IsSomeAnd o (ReadsForm text token.literal)) (sym (first_of list.forms t.forms.now token.form is.form at))
            (is.literal.0, kind, subst (ReadsIn is.form token.literal.literal) (take_all is.size text past) is.literal.1);
        before = λ k d below l read.
            let less = first_below list t token.form k d is.form at below in
            let shorter = before_at (λ (it : Form × Bool). (s e : ℕ) → IsCandidate t.gives_points_back it.1 text it.0 s e
            → is_shorter s e is.size is.end ≡ true) (tried list t) token.form k (get_or (take token.form list.forms) k d, false) less.0 less.1 is.chosen.before
            (length text) (length text) (whole (get_or (take token.form list.forms) k d) l read) in
            let stop = end in let own = size in let less = past in grind (arith, nat_tests);
      }
      of true at own = let longer = own.suffixed refl in absurd (omega (arith, longer, end))
