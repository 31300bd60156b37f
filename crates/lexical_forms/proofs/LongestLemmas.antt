-- Tokens: the longest candidate of the forms that have been asked.
use Rattle.lexical_forms.proofs.Common.{All, All-append, All-more, All-take, AreSums, Bool, Candidate, Counts, Form, FormList, Found, GoesWithin, HasNoWord}
use Rattle.lexical_forms.proofs.Common.{HasNone, HasSumsOf, IsAhead, IsAsked, IsCandidate, IsFirstYet, IsFrontIn, IsMade, IsOpenedTo, IsOver, IsOverFrom}
use Rattle.lexical_forms.proofs.Common.{IsPicked, IsSomeAnd, IsTrue, IsWinner, IsWithin, IsYet, List, None, NoneLonger, Option, PointsBack, Reads, ReadsIn}
use Rattle.lexical_forms.proofs.Common.{Some, Tokens, [], ap, arith, behind, cases_lt, cut, cuts_of, drop, false, false≢true, get_or, get_or-take}
use Rattle.lexical_forms.proofs.Common.{get_or_from_slice_get, gives_back, inl, inr, is_float, is_longer, is_shorter, length, length-append, length-take}
use Rattle.lexical_forms.proofs.Common.{length-take-le, map, more_of, nat_tests, notation_of, option_map, raw, refl, slice_get, slice_get-get_or}
use Rattle.lexical_forms.proofs.Common.{slice_get_within, subst, sym, take, take_all, tried, true, unwrap_or, ℕ, ◌++◌, ◌+◌, ◌-◌, ◌<◌, ◌∙◌, ◌∷◌, ◌≡◌, ◌≤◌, ◌⊎◌}
use Rattle.lexical_forms.proofs.LeadingLemmas.{less_or_same, no_longer, suffix_within, sums_of_front, word_within}
use Rattle.lexical_forms.proofs.BehindLemmas.{found_in, inner_is}
use Rattle.lexical_forms.proofs.FormLemmas.{all_at, some_of}
use Rattle.lexical_forms.proofs.OpeningLemmas.{begins_whole, front_behind, rest_size}
use Rattle.lexical_forms.proofs.TokenLemmas.{above_up, below_up, for_some, is_none, literal_size, no_some, none_below, same_end, same_size, some_is}
use Rattle.lexical_forms.specs.Additions.Token.{NotLonger}
use Rattle.lexical_literal.specs.Additions.Literal.{IsSummed}
use Rattle.lexical_literal.specs.Additions.Stop.{HasBegun}
use Rattle.lexical_literal.specs.declared.stop.Begun.{Begun}
use Rattle.lexical_forms.specs.declared.candidate.Longest.{Longest}
use Rattle.std.proofs.lemmas.List.{length-map}
use Rattle.std.proofs.lemmas.List.Elements.{All-map}
use Rattle.std.proofs.lemmas.Option.{slice_get-map}

-- What holds of the first elements and of the next one holds of one more.
pub more_at : {X : Type 0} (P : X → Type 0) (xs : List X) (i : ℕ) (x : X) → slice_get xs i ≡ Some x → All P (take i xs) → P x → All P (take (i + 1) xs)
more_at P xs i x at old own = All-more P xs i x (slice_get_within xs i x at) old (subst P (sym (get_or_from_slice_get xs i x x at)) own)

-- The forms of a list are the first, and those that need a suffix follow them.
pub first_at : (fs : List Form) (more : List (Form × Bool)) (k : ℕ) (d : Form) → k < length fs
    → slice_get {X = Form × Bool} (map (λ form. (form, false)) fs ++ more) k ≡ Some (get_or fs k d, false)
first_at [] more k d below = absurd (omega (arith, below))
first_at (f ∷ fs) more ℕ.zero d below = refl
first_at (f ∷ fs) more (ℕ.suc k) d below = first_at fs more k d (omega (arith, below))

map_at : (b : Bool) (fs : List Form) (k : ℕ) (d : Form) → k < length fs → slice_get {X = Form × Bool} (map (λ form. (form, b)) fs) k ≡ Some (get_or fs k d, b)
map_at b fs k d below = slice_get-map (λ form. (form, b)) fs k ∙ ap (option_map (λ (form : Form). (form, b))) (slice_get-get_or fs k d below)

pub second_at : (fs gs : List Form) (k : ℕ) (d : Form) → length fs ≤ k → k < length fs + length gs
    → slice_get {X = Form × Bool} (map (λ form. (form, false)) fs ++ map (λ form. (form, true)) gs) k ≡ Some (get_or gs (k - length fs) d, true)
second_at [] gs k d low below =
    map_at true gs k d (omega (arith, below)) ∙ ap (λ n. Some (get_or gs n d, true)) (let same : k ≡ k - 0 = omega arith in same)
second_at (f ∷ fs) gs ℕ.zero d low below = absurd (omega (arith, low))
second_at (f ∷ fs) gs (ℕ.suc k) d low below = second_at fs gs k d (omega (arith, low)) (omega (arith, below))
    ∙ ap (λ n. Some (get_or gs n d, true)) (let same : k - length fs ≡ ℕ.suc k - length (f ∷ fs) = omega arith in same)

pub size_tried : (list : FormList) (t : Tokens) → length (tried list t) ≡ length list.forms + length t.forms.now
size_tried list t =
    let all = length-append {A = Form × Bool} (map (λ (form : Form). (form, false)) list.forms) (map (λ (form : Form). (form, true)) t.forms.now) in
    let one = length-map {B = Form × Bool} list.forms (λ (form : Form). (form, false)) in let other = length-map {B = Form × Bool} t.forms.now (λ (form : Form). (form, true)) in
    omega (arith, all, one, other)

-- A form that needs no suffix is one of the list.
never_first : (gs : List Form) (k : ℕ) (form : Form) → slice_get {X = Form × Bool} (map (λ form. (form, true)) gs) k ≡ Some (form, false) → ⊥
never_first [] k form at = no_some _ at
never_first (g ∷ gs) ℕ.zero form at = false≢true (sym (ap (λ (it : Form × Bool). it.1) (some_is (g, true) (form, false) at)))
never_first (g ∷ gs) (ℕ.suc k) form at = never_first gs k form at

pub first_of : (fs gs : List Form) (k : ℕ) (form : Form) → slice_get {X = Form × Bool} (map (λ form. (form, false)) fs ++ map (λ form. (form, true)) gs) k ≡ Some (form, false)
    → slice_get fs k ≡ Some form
first_of [] gs k form at = absurd (never_first gs k form at)
first_of (f ∷ fs) gs ℕ.zero form at = ap (λ (it : Form × Bool). Some it.0) (some_is (f, false) (form, false) at)
first_of (f ∷ fs) gs (ℕ.suc k) form at = first_of fs gs k form at

-- What holds of the first elements holds of one of them.
pub before_at : {X : Type 0} (P : X → Type 0) (xs : List X) (i k : ℕ) (x : X) → k < i → slice_get xs k ≡ Some x → All P (take i xs) → P x
before_at P xs i k x below at all =
    let inside = slice_get_within xs k x at in
    let long : k < length (take i xs) = (let size = length-take i xs in grind (arith, size)) in
    subst P (get_or-take i xs k x below ∙ get_or_from_slice_get xs k x x at) (all k x long)

-- A form before one of the list is one of the list.
pub first_below : (list : FormList) (t : Tokens) (i k : ℕ) (d form : Form) → slice_get (tried list t) i ≡ Some (form, false)
    → k < length (take i list.forms) → (k < i) × (slice_get (tried list t) k ≡ Some (get_or (take i list.forms) k d, false))
first_below list t i k d form at below =
    let inside = slice_get_within list.forms i form (first_of list.forms t.forms.now i form at) in
    let size = length-take i list.forms in
    let less : k < i = grind (arith, size) in (
      less,
      first_at list.forms (map (λ form. (form, true)) t.forms.now) k d (omega (arith, less, inside))
          ∙ ap (λ (f : Form). Some (f, false)) (sym (get_or-take i list.forms k d less)),
    )

pub all_tried : (P : Form → Type 0) (list : FormList) (t : Tokens) → All P list.forms → All P t.forms.now → All (λ it. P it.0) (tried list t)
all_tried P list t first second = All-append (λ (it : Form × Bool). P it.0) (map (λ form. (form, false)) list.forms) (map (λ form. (form, true)) t.forms.now)
    (All-map (λ (it : Form × Bool). P it.0) (λ form. (form, false)) list.forms first)
    (All-map (λ (it : Form × Bool). P it.0) (λ form. (form, true)) t.forms.now second)

-- The form that was picked is the one at its index.
pub picked_at : (list : FormList) (t : Tokens) (text : List ℕ) (index : ℕ) (it : Form) (needs : Bool) (c : Candidate)
    → slice_get (tried list t) index ≡ Some (it, needs) → (form : Form) × IsPicked list t text index form c → IsPicked list t text index it c
picked_at list t text index it needs c at (form, is) = subst (λ f. IsPicked list t text index f c)
    (ap (λ (x : Form × Bool). x.0) (some_is _ _ (sym is.chosen.at ∙ at))) is

pub picked_inside : (list : FormList) (t : Tokens) (text : List ℕ) (index : ℕ) (c : Candidate)
    → (form : Form) × IsPicked list t text index form c → index < length (tried list t)
picked_inside list t text index c (form, is) = slice_get_within (tried list t) index (form, is.chosen.needs) is.chosen.at

-- What has been read behind the opening, where no literal goes on.
module _ (form : Form) (text part : List ℕ) (opened : ℕ) (is : IsOpenedTo form.opening text opened) (least : form.opening.size ≤ opened)
    (at : part ≡ drop opened text) (begun : Begun) (found : HasBegun (notation_of form.syntax) part begun) (complete : IsTrue begun.complete)
    (within : IsWithin (notation_of form.syntax) part begun.at.size) where
  abbrev front : Found
  front = record { size = opened + begun.at.size; counts = begun.counts }

  opened_is : opened ≡ form.opening.size
  opened_is = let inside = is.inside in omega (arith, least, inside)

  part_is : part ≡ behind form text
  part_is = at ∙ ap (λ k. drop k text) opened_is

  pub read_front : IsFrontIn text front form
  read_front = found_in form text opened part is least at (record { size = begun.at.size; counts = begun.counts })
      (record {
        literal = (found.literal complete).0;
        reads = record {
          within = found.begun.begun.within;
          reads = (found.literal complete).1;
          no_longer = λ more past inside l reads.
              within more past inside (begins_whole (Reads (notation_of form.syntax)) (take more part) l reads);
        };
        counted = found.lengths complete;
      }) front refl

  pub read_sums : IsSummed (raw form.syntax.word) part begun → HasSumsOf form (take front.size text) begun.counts (Some begun.sums)
  read_sums summed = for_some (AreSums (raw form.syntax.word) (cut (drop form.opening.size (take front.size text)) (cuts_of begun.counts))) begun.sums
      (subst (λ t. AreSums (raw form.syntax.word) (cut t (cuts_of begun.counts)) begun.sums) (sym inside_is)
      (sums_of_front (raw form.syntax.word) part begun.at.size (cuts_of begun.counts) begun.sums (notation_of form.syntax) (found.literal complete).0
      found.begun.begun.within (found.literal complete).1 (found.lengths complete (found.literal complete).0 (found.literal complete).1) (summed complete))) where
        inside_is : drop form.opening.size (take front.size text) ≡ take begun.at.size part
        inside_is = inner_is form text front read_front (take front.size text) _ refl refl
            ∙ ap (λ k. take k (behind form text)) (let same : front.size - form.opening.size ≡ begun.at.size = omega (arith, opened_is) in same)
            ∙ ap (take begun.at.size) (sym part_is)

  pub read_over : (back : PointsBack) → IsOverFrom back text front.size form
  read_over back end past ahead =
      let further = ahead.further in
      let more : form.opening.size ≤ ahead.size = omega (arith, opened_is, past, further) in
      let all = rest_size text form (let inside = is.begins.within in omega (arith, inside, opened_is)) in
      subst (λ t. IsWithin (notation_of form.syntax) t begun.at.size) part_is within (ahead.size - form.opening.size) (omega (arith, opened_is, past, further))
      (let inside = ahead.valid.within in omega (arith, all, inside)) (front_behind text form ahead.size more ahead.valid.within ahead.valid.front)

shorter : (s e a b : ℕ) → s < a → e ≤ b → is_shorter s e a b ≡ true
shorter s e a b less end = grind (arith, nat_tests)

not_both_ways : (s e a b : ℕ) → is_shorter s e a b ≡ true → is_shorter a b s e ≡ false
not_both_ways s e a b up = grind (arith, nat_tests)

-- A candidate has a byte, and ends behind its literal.
some_size : (list : FormList) (t : Tokens) (text : List ℕ) (it : Form × Bool) (s e : ℕ) → IsCandidate t.gives_points_back it.1 text it.0 s e → 0 < s
some_size list t text it s e is =
    let some = literal_size it.0 (take s text) is.literal is.reads in
    let part = less_or_same (gives_back t.gives_points_back it.0 text is.longest) is.longest in
    let long = length-take-le s text (let size = is.size_is in let within = is.front.1.within in omega (arith, part, size, within)) in omega (arith, some, long)

end_above : (a b c d : ℕ) → is_shorter a b c d ≡ true → b ≤ d
end_above a b c d up = grind (arith, nat_tests)

module _ (list : FormList) (t : Tokens) (text : List ℕ) where
  abbrev all : List (Form × Bool)
  all = tried list t

  abbrev HasIt : Form × Bool → ℕ → ℕ → Type 0
  HasIt it s e = IsCandidate t.gives_points_back it.1 text it.0 s e

  -- Where no word goes on, no candidate ends later.
  pub end_within : (it : Form × Bool) (s e end : ℕ) → HasNoWord text end it.0 → s ≤ end → HasIt it s e → e ≤ end
  end_within it s e end none low other =
      let suffix = suffix_within it.0.suffixes (is_float other.literal) (drop s text) in
      let word = word_within (more_of it.0.suffixes) text s end low none in
      let is = other.end_is in omega (arith, suffix, word, is)

  -- A form that goes no further has no longer candidate.
  pub size_within : (it : Form × Bool) (past s e : ℕ) → GoesWithin text past it.0 → HasIt it s e → s ≤ past
  size_within it past s e within other = elim (cases_lt past other.longest) [
    | inl more ↦ absurd (within other.longest more other.front.1.within
        (begins_whole (ReadsIn it.0) (take other.longest text) other.front.0 other.front.1.reads))
    | inr low ↦ (let part = less_or_same (gives_back t.gives_points_back it.0 text other.longest) other.longest in
        let size = other.size_is in omega (arith, low, part, size))
  ]

  module _ (least : ℕ) where
    pub start : IsYet list t text least 0 (record { best = None; reach = 0; past = least; clear = false })
    start = record {
      best = λ best same. absurd (no_some best same);
      others = λ k d below. absurd (omega (arith, below));
      passed = λ k d below s e counts low. let more = counts.0 in omega (arith, more, low);
      low = omega arith;
      over = λ k d below. absurd (omega (arith, below));
      clear = λ is. absurd (false≢true is);
    }

    module _ (i : ℕ) (it : Form × Bool) (at : slice_get all i ≡ Some it) (found : Longest) (old : IsYet list t text least i found) where
      -- The form is passed over.
      pub pass : GoesWithin text found.past it.0 → IsYet list t text least (i + 1) found
      pass within = record {
        best = old.best;
        others = more_at (NoneLonger list t text least found.best) all i it at old.others (λ s e counts.
            all_at (λ it. (s e : ℕ) → Counts list t text least it s e → s ≤ found.past → NotLonger found.best s e) all i it at old.passed s e counts
            (size_within it found.past s e within counts.1));
        passed = old.passed;
        low = old.low;
        over = more_at (λ it. (end : ℕ) → found.reach ≤ end → found.past ≤ end → IsAhead t.gives_points_back text end it.0 → ⊥) all i it at old.over
            (λ end reach past ahead. within ahead.size (let further = ahead.further in omega (arith, further, past)) ahead.valid.within ahead.valid.front);
        clear = old.clear;
      }

      module _ (reach new : ℕ) (candidate : Option Candidate) (asked : IsAsked t.gives_points_back text it reach candidate)
          (one : found.reach ≤ new) (other : reach ≤ new) where
        abbrev IsOverAt : ℕ → ℕ → Form × Bool → Type 0
        IsOverAt reach past it = (end : ℕ) → reach ≤ end → past ≤ end → IsAhead t.gives_points_back text end it.0 → ⊥

        over_more : (past : ℕ) → found.past ≤ past → All (IsOverAt new past) (take (i + 1) all)
        over_more past less = more_at (IsOverAt new past) all i it at
            (λ k d below end far behind. old.over k d below end (omega (arith, far, one)) (omega (arith, behind, less)))
            (λ end far behind. asked.over end (omega (arith, far, other)))

        -- The best one stays.
        stays : NoneLonger list t text least found.best it → IsYet list t text least (i + 1) (record found { reach = new })
        stays none = record {
          best = old.best;
          others = more_at (NoneLonger list t text least found.best) all i it at old.others none;
          passed = old.passed;
          low = old.low;
          over = over_more found.past (omega arith);
          clear = old.clear;
        }

        pub without : candidate ≡ None → IsYet list t text least (i + 1) (record found { reach = new })
        without none = stays (λ s e counts. absurd (asked.none (is_none candidate none) s e counts.1))

        module _ (c : Candidate) (is : candidate ≡ Some c) where
          made : IsMade t.gives_points_back it.1 text it.0 c
          made = asked.some c is

          -- It is not longer.
          pub too_short : c.size ≤ least → IsYet list t text least (i + 1) (record found { reach = new })
          too_short low = stays (λ s e counts. absurd (let same = same_size t.gives_points_back it.1 text it.0 c made s e counts.1 in
              let more = counts.0 in omega (arith, same, more, low)))

          pub no_gain : is_longer found.best c ≡ false → IsYet list t text least (i + 1) (record found { reach = new })
          no_gain up = stays (λ s e counts. subst (NotLonger found.best s) (sym (same_end t.gives_points_back it.1 text it.0 c made s e counts.1))
              (subst (λ n. NotLonger found.best n c.end) (sym (same_size t.gives_points_back it.1 text it.0 c made s e counts.1)) (up_of found.best up))) where
                up_of : (best : Option (ℕ × Candidate)) → is_longer best c ≡ false → NotLonger best c.size c.end
                up_of None up = false≢true (sym up)
                up_of (Some best) up = up

          -- It is longer.
          module _ (long : least < c.size) (up : is_longer found.best c ≡ true) (clear : Bool)
              (none : IsTrue clear → All (λ it. HasNoWord text c.end it.0) all) (past : ℕ)
              (past_is : (past ≡ found.past) ⊎ (IsTrue clear × (found.past < c.size) × (past ≡ c.size))) where
            abbrev next : Longest
            next = record { best = Some (i, c); reach = new; past = past; clear = clear }

            none_longer : (s e : ℕ) → HasIt it s e → is_shorter c.size c.end s e ≡ false
            none_longer s e is = ap (λ n. is_shorter c.size c.end n e) (same_size t.gives_points_back it.1 text it.0 c made s e is)
                ∙ ap (is_shorter c.size c.end c.size) (same_end t.gives_points_back it.1 text it.0 c made s e is) ∙ none_below c.size c.end

            -- What is not longer than the best is shorter.
            below_it : (best : Option (ℕ × Candidate)) → is_longer best c ≡ true → (s e : ℕ) → NotLonger best s e
                → (is_shorter s e c.size c.end ≡ true) × (is_shorter c.size c.end s e ≡ false)
            below_it None up s e none = absurd none
            below_it (Some best) up s e none =
                (below_up best.1.size best.1.end s e c.size c.end none up, above_up best.1.size best.1.end s e c.size c.end none up)

            abbrev IsPastOf : Type 0
            IsPastOf = (past ≡ found.past) ⊎ (IsTrue clear × (found.past < c.size) × (past ≡ c.size))

            passed_by : IsPastOf → All (λ it. (s e : ℕ) → Counts list t text least it s e → s ≤ past → is_shorter c.size c.end s e ≡ false) all
            passed_by (inl same) k d below s e counts low =
                (below_it found.best up s e (old.passed k d below s e counts (omega (arith, low, same)))).1
            passed_by (inr (on, less, same)) k d below s e counts low =
                let low : s ≤ c.size = omega (arith, low, same) in
                no_longer s e c.size c.end low (end_within (get_or all k d) s e c.end (none on k d below) (omega (arith, low, made.ready.order)) counts.1)

            less_by : IsPastOf → found.past ≤ past
            less_by (inl same) = omega (arith, same)
            less_by (inr (on, less, same)) = omega (arith, same, less)

            low_before : (best : Option (ℕ × Candidate)) → is_longer best c ≡ true
                → found.past ≤ unwrap_or (option_map (λ (best : ℕ × Candidate). best.1.end) best) least → found.past ≤ c.end
            low_before None up low = omega (arith, low, long, made.ready.order)
            low_before (Some best) up low = let above = end_above best.1.size best.1.end c.size c.end up in omega (arith, low, above)

            low_by : IsPastOf → past ≤ c.end
            low_by (inl same) = let low = low_before found.best up old.low in omega (arith, same, low)
            low_by (inr (on, less, same)) = omega (arith, same, made.ready.order)

            pub gained : IsYet list t text least (i + 1) next
            gained = record {
              best = for_some (λ (best : ℕ × Candidate). IsFirstYet list t text least best.0 best.1) (i, c) (record {
                here = subst (λ o. IsSomeAnd o (λ it. IsMade t.gives_points_back it.1 text it.0 c)) (sym at) made;
                long = long;
                before = λ k d below s e counts. (below_it found.best up s e (old.others k d below s e counts)).0;
              });
              others = more_at (λ it. (s e : ℕ) → Counts list t text least it s e → is_shorter c.size c.end s e ≡ false) all i it at
                  (λ k d below s e counts. (below_it found.best up s e (old.others k d below s e counts)).1)
                  (λ s e counts. none_longer s e counts.1);
              passed = passed_by past_is;
              low = low_by past_is;
              over = over_more past (less_by past_is);
              clear = λ on. ((i, c), refl, none on);
            }

    -- All forms have been asked.
    module _ (i : ℕ) (end : length all ≤ i) (found : Longest) (is : IsYet list t text least i found) (sure : IsTrue found.clear ⊎ (least ≡ 0)) where
      -- Candidates that do not count are none, or shorter.
      uncounted : (best : ℕ × Candidate) → found.best ≡ Some best → IsFirstYet list t text least best.0 best.1
          → All (λ it. (s e : ℕ) → s ≤ least → HasIt it s e → (is_shorter s e best.1.size best.1.end ≡ true)) all
      uncounted best at yet k d below s e low has = go sure where
        go : IsTrue found.clear ⊎ (least ≡ 0) → is_shorter s e best.1.size best.1.end ≡ true
        go (inr zero) = absurd (let some = some_size list t text (get_or all k d) s e has in omega (arith, some, low, zero))
        go (inl clear) =
            let own = is.clear clear in
            let same : own.0 ≡ best = some_is own.0 best (sym own.1 ∙ at) in
            let none = subst (λ (best : ℕ × Candidate). HasNoWord text best.1.end (get_or all k d).0) same (own.2 k d below) in
            let made = (some_of (λ it. IsMade t.gives_points_back it.1 text it.0 best.1) (slice_get all best.0) yet.here).2 in
            let order = made.ready.order in let long = yet.long in
            let less = end_within (get_or all k d) s e best.1.end none (omega (arith, low, long, order)) has in
            shorter s e best.1.size best.1.end (omega (arith, low, long)) less

      all_others : All (NoneLonger list t text least found.best) all
      all_others = subst (All (NoneLonger list t text least found.best)) (take_all i all end) is.others

      pub winner : IsWinner list t text found
      winner = record {
        none = λ none. without_best none;
        some = λ best at. picked best at;
        over = λ best at reach k d below. over_at best at reach k d below;
      } where
        without_best : found.best ≡ None → HasNone list t text
        without_best none = go sure where
          go : IsTrue found.clear ⊎ (least ≡ 0) → HasNone list t text
          go (inl clear) k d below s e has = absurd (no_some _ (sym none ∙ (is.clear clear).1))
          go (inr zero) k d below s e has = subst (λ o. NotLonger o s e) none (all_others k d below s e
              (let some = some_size list t text (get_or all k d) s e has in omega (arith, some, zero), has))

        picked : (best : ℕ × Candidate) → found.best ≡ Some best → (form : Form) × IsPicked list t text best.0 form best.1
        picked best at =
            let yet = is.best best at in
            let here = some_of (λ it. IsMade t.gives_points_back it.1 text it.0 best.1) (slice_get all best.0) yet.here in
            let made = here.2 in (
              here.0.0,
              record {
                chosen = record {
                  needs = here.0.1;
                  at = here.1;
                  own = made.candidate;
                  before = λ k d below s e has. elim (cases_lt least s) [
                    | inl more ↦ yet.before k d below s e (more, has)
                    | inr low ↦ in_front best at yet k d below s e low has
                  ];
                  others = λ k d below s e has. elim (cases_lt least s) [
                    | inl more ↦ subst (λ o. NotLonger o s e) at (all_others k d below s e (more, has))
                    | inr low ↦ not_both_ways s e best.1.size best.1.end (uncounted best at yet k d below s e low has)
                  ];
                };
                ready = made.ready;
              },
            ) where
              in_front : (best : ℕ × Candidate) → found.best ≡ Some best → IsFirstYet list t text least best.0 best.1
                  → All (λ it. (s e : ℕ) → s ≤ least → HasIt it s e → is_shorter s e best.1.size best.1.end ≡ true) (take best.0 all)
              in_front best at yet = All-take (λ it. (s e : ℕ) → s ≤ least → HasIt it s e → is_shorter s e best.1.size best.1.end ≡ true) best.0 all
                  (uncounted best at yet)

        over_at : (best : ℕ × Candidate) → found.best ≡ Some best → found.reach ≤ best.1.end → IsOver list t text best.1.end
        over_at best at reach k d below =
            let past : found.past ≤ best.1.end =
            subst (λ o. found.past ≤ unwrap_or (option_map (λ (best : ℕ × Candidate). best.1.end) o) least) at is.low in
            all_at (λ (it : Form × Bool). IsAhead t.gives_points_back text best.1.end it.0 → ⊥) all k (get_or list.forms k d, false)
            (first_at list.forms (map (λ form. (form, true)) t.forms.now) k d below)
            (λ k d below. (subst (λ xs. All (λ (it : Form × Bool). (end : ℕ) → found.reach ≤ end → found.past ≤ end
            → IsAhead t.gives_points_back text end it.0 → ⊥) xs) (take_all i all end) is.over) k d below best.1.end reach past)
