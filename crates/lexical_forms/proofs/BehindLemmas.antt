-- Forms with an opening: what a syntax reads behind it, and where a text stops.
use Rattle.lexical_forms.proofs.Common.{Begins, BeginsBy, Bool, Form, Found, GoesTo, IsCountedFront, IsErrorIn, IsExcluded, IsFront, IsFrontIn, IsInside}
use Rattle.lexical_forms.proofs.Common.{IsOpened, IsOpenedTo, IsPassed, IsRefusal, IsRefusedAt, IsStopped, IsStoppedBefore, IsStoppedBehind, IsValidUpTo}
use Rattle.lexical_forms.proofs.Common.{IsWithin, List, Literal, NoFrontBy, NoFrontPast, NoLiteral, None, NoneBy, NonePast, Notation, Reaches, Reads}
use Rattle.lexical_forms.proofs.Common.{ReadsFront, ReadsFrontBy, ReadsIn, Refusal, Some, Stopped, [], ap, arith, behind, cases_lt, drop, false}
use Rattle.lexical_forms.proofs.Common.{inl, inr, length, nat_tests, not, notation_of, reach, reached, subst, sym, take}
use Rattle.lexical_forms.proofs.Common.{take_all, ℕ, ◌++◌, ◌+◌, ◌-◌, ◌<◌, ◌==◌, ◌∙◌, ◌≡◌, ◌≤◌}
use Rattle.lexical_forms.proofs.OpeningLemmas.{behind_take, front_opened, no_opening, none_empty, not_longer, not_opened, one_valid, opened_front}
use Rattle.lexical_forms.proofs.OpeningLemmas.{front_behind, past_behind, rest_size, valid_behind, valid_inside}
use Rattle.lexical_forms.proofs.StrangerLemmas.{goes_no_further, none_start, reach_least, reach_most, start_out}

-- A form without an opening.
pub no_size : (n : ℕ) (some : Bool) → some ≡ not (n == 0) → some ≡ false → n ≡ 0
no_size n some is none = grind (arith, nat_tests)

module _ (g : Form) where
  abbrev m : Notation
  m = notation_of g.syntax

  abbrev n : ℕ
  n = g.opening.size

  pub none_empty_in : NoneBy (ReadsIn g) []
  none_empty_in = none_empty g

  module _ (text : List ℕ) where
    abbrev rest : List ℕ
    rest = behind g text

    -- The bytes that are right are the longest front that some literal begins with: without an opening, those of the opening.
    pub goes_before : IsFront m [] → (size : ℕ) → IsOpenedTo g.opening text size → size < n → GoesTo text g size
    goes_before some size is short = record {
      within = is.begins.within;
      front = front_opened text g size is short some;
      no_longer = λ more past inside front. not_longer text g size is short more front.more past inside front.reads.0;
    }

    -- ERRORS

    -- A text of which no front is a literal is none.
    pub none_whole : NoFrontBy (ReadsIn g) text → NoneBy (ReadsIn g) text
    none_whole none l reads = none (length text) (omega arith) l (subst (ReadsIn g l) (sym (take_all (length text) text (omega arith))) reads)

    -- A text that is refused is not a literal.
    pub none_in : (stop : Stopped) → IsRefusedAt text stop g → NoneBy (ReadsIn g) text
    none_in stop (valid, inl is) l reads = not_opened g.opening text stop.size is.opened is.short reads.0
    none_in stop (valid, inr is) l reads = is.none l reads.1

    -- A form goes so far, and no further.
    pub one_reach : (a b : ℕ) → Reaches text g a → Reaches text g b → a ≡ b
    one_reach a b one other = one.2 ∙ ap (reached g text) (one_valid (ReadsIn g) text one.0 other.0 one.1 other.1) ∙ sym other.2

    reached_before : (size : ℕ) → size < n → reached g text size ≡ size
    reached_before size short = grind (arith, nat_tests)

    reached_behind : (size : ℕ) → n ≤ size → reached g text size ≡ n + reach m rest (size - n)
    reached_behind size past = grind (arith, nat_tests)

    reached_near : (size : ℕ) → (size ≤ reached g text size) × (reached g text size ≤ size + 1)
    reached_near size =
        let least = reach_least m rest (size - n) in let most = reach_most m rest (size - n) in (grind (arith, nat_tests), grind (arith, nat_tests))

    module _ (stop : Stopped) (refused : IsRefusedAt text stop g) (k : ℕ) (reaches : Reaches text g k) where
      reached_there : k ≡ reached g text stop.size
      reached_there = reaches.2 ∙ ap (reached g text) (one_valid (ReadsIn g) text reaches.0 stop.size reaches.1 refused.0)

      pub goes_most : k ≤ stop.size + 1
      goes_most = let near = reached_near stop.size in omega (arith, near.1, reached_there)

    -- The error of a form in whose opening reading stops.
    pub lacks_opening : (stop : Stopped) → GoesTo text g stop.size → IsStoppedBefore text stop g → IsErrorIn g text stop.size None
    lacks_opening stop valid is = (valid, λ opened. not_opened g.opening text stop.size is.opened is.short opened)

    -- WITHOUT AN OPENING

    module _ (none : n ≡ 0) where
      -- It reads what its syntax reads.
      pub plain_of : (l : Literal) → ReadsIn g l text → Reads m l text
      plain_of l reads = subst (λ i. Reads m l (drop i text)) none reads.1

      pub plain_in : (l : Literal) → Reads m l text → ReadsIn g l text
      plain_in l reads = (no_opening g.opening text none, subst (λ i. Reads m l (drop i text)) (sym none) reads)

    -- FRONTS

    -- The longest front of a form, which is a literal `l` of its syntax behind the opening.
    pub read_in : (found : Found) (l : Literal) → IsFrontIn text found g → ReadsFront m l rest (found.size - n) → ReadsFrontBy (ReadsIn g) l text found.size
    read_in found l is reads = opened_front text g l found.size is.opened is.past reads

    pub front_in : (found : Found) → (is : IsFrontIn text found g) → ReadsFrontBy (ReadsIn g) is.front.literal text found.size
    front_in found is = read_in found is.front.literal is is.front.reads

    -- What the code takes out of a front.
    pub inner_is : (found : Found) → IsFrontIn text found g → (front inside : List ℕ) → front ≡ take found.size text
        → inside ≡ drop n front → inside ≡ take (found.size - n) rest
    inner_is found is front inside front_is inside_is = inside_is ∙ ap (drop n) front_is ∙ behind_take n found.size text is.past

    -- WHERE A FORM IS REFUSED

    -- It stops in the opening, or behind it.
    pub before_of : (stop : Stopped) → IsRefusedAt text stop g → stop.size < n → IsStoppedBefore text stop g
    before_of stop (valid, inl is) short = is
    before_of stop (valid, inr is) short = absurd (let past = is.past in omega (arith, past, short))

    pub behind_of : (stop : Stopped) → IsRefusedAt text stop g → n ≤ stop.size → IsStoppedBehind text stop g
    behind_of stop (valid, inl is) past = absurd (let short = is.short in omega (arith, past, short))
    behind_of stop (valid, inr is) past = is

    -- Where the syntax stops.
    module _ (stop at : Stopped) (part : List ℕ) (refused : IsRefusedAt text stop g) (past : n ≤ stop.size) (size : ℕ) (size_is : size ≡ n)
        (at_is : at ≡ record stop { size = stop.size - size }) (part_is : part ≡ drop size text) where
      part_behind : part ≡ rest
      part_behind = part_is ∙ ap (λ k. drop k text) size_is

      pub part_stopped : IsStopped m part at
      part_stopped = subst (λ t. IsStopped m t at) (sym part_behind) (subst (IsStopped m rest)
          (sym (at_is ∙ ap (λ k. record stop { size = stop.size - k }) size_is)) (behind_of stop refused past).stopped)

      pub part_refused : NoLiteral m part
      part_refused = subst (NoLiteral m) (sym part_behind) (behind_of stop refused past).none

      pub part_error : (error : Refusal) → IsRefusal m part error → IsErrorIn g text size (Some error)
      part_error error is = (size_is, (behind_of stop refused past).opened, subst (λ t. IsRefusal m t error) part_behind is)

    -- Without an opening, the syntax stops where the form does.
    pub plain_refused : (stop : Stopped) → n ≡ 0 → IsStopped m text stop → NoLiteral m text → IsRefusedAt text stop g
    plain_refused stop none stopped refused = (
      subst (GoesTo text g) (let same : n + stop.size ≡ stop.size = omega (arith, none) in same)
          (valid_behind text g stop.size (no_opening g.opening text none) (subst (λ k. IsValidUpTo m (drop k text) stop.size) (sym none) stopped.valid)),
      inr
          (record {
            opened = no_opening g.opening text none;
            past = omega (arith, none);
            stopped = subst (λ k. IsStopped m (drop k text) (record stop { size = stop.size - k })) (sym none) (subst (IsStopped m text)
                (ap (λ k. record stop { size = k }) (let same : stop.size ≡ stop.size - 0 = omega arith in same)) stopped);
            none = subst (λ k. NoLiteral m (drop k text)) (sym none) refused;
          }),
    )

    -- WHERE IT IS KNOWN THAT A FORM GOES NO FURTHER

    -- Its opening is not there.
    pub passed_before : (size : ℕ) → IsOpenedTo g.opening text size → size < n → IsPassed g text size
    passed_before size is short = record {
      none = λ l reads. not_opened g.opening text size is short reads.0;
      within = longer;
      low = λ k reaches. elim (cases_lt size reaches.0) [
        | inl past ↦ absurd (longer reaches.0 past reaches.1.within reaches.1.front)
        | inr near ↦ omega (arith, near, reaches.2 ∙ reached_before reaches.0 (omega (arith, near, short)))
      ];
    } where
      longer : (more : ℕ) → size < more → more ≤ length text → BeginsBy (ReadsIn g) (take more text) → ⊥
      longer more past inside front = not_longer text g size is short more front.more past inside front.reads.0

    passed_behind : IsOpened g.opening text → (bound : ℕ) → IsExcluded m rest bound → IsPassed g text (n + bound)
    passed_behind opened bound out = record {
      none = λ l reads. out.none l reads.1;
      within = λ more past inside front. out.within (more - n) (omega (arith, past))
          (let all = rest_size text g opened.within in omega (arith, all, inside)) (front_behind text g more (omega (arith, past)) inside front);
      low = λ k reaches. elim (cases_lt reaches.0 n) [
        | inl short ↦ omega (arith, short, reaches.2 ∙ reached_before reaches.0 short)
        | inr past ↦ (let most = goes_no_further m rest bound out (reaches.0 - n) (valid_inside text g reaches.0 opened past reaches.1) in
            omega (arith, most, reaches.2 ∙ reached_behind reaches.0 past))
      ];
    }

    -- The opening is there, and `part` is behind it.
    module _ (opened : ℕ) (part : List ℕ) (size : opened ≡ n) (is : IsOpened g.opening text) (at : part ≡ drop opened text) where
      at_part : part ≡ rest
      at_part = at ∙ ap (λ k. drop k text) size

      pub inside_opening : IsInside g text part
      inside_opening = record { opened = is; is = at_part }

      pub passed_inside : (bound : ℕ) → IsExcluded m part bound → IsPassed g text (opened + bound)
      passed_inside bound out = subst (IsPassed g text) (let same : n + bound ≡ opened + bound = omega (arith, size) in same)
          (passed_behind is bound (subst (λ t. IsExcluded m t bound) at_part out))

      pub passed_start : IsWithin m part 0 → IsPassed g text opened
      passed_start none = subst (IsPassed g text) (let same : opened + 0 ≡ opened = omega arith in same) (passed_inside 0 (start_out m part none))

    -- BEHIND THE OPENING

    -- It is there, and `part` is behind it.
    module _ (opened : ℕ) (part : List ℕ) (is : IsOpenedTo g.opening text opened) (least : n ≤ opened) (at : part ≡ drop opened text) where
      pub whole : opened ≡ n
      whole = let inside = is.inside in omega (arith, least, inside)

      pub opening_is : IsOpened g.opening text
      opening_is = subst (Begins g.opening text) whole is.begins

      at_rest : part ≡ rest
      at_rest = at ∙ ap (λ k. drop k text) whole

      -- The same of what the code finds there.
      pub goes_behind : (size stop : ℕ) → IsValidUpTo m part size → stop ≡ opened + size → GoesTo text g stop
      goes_behind size stop valid same = subst (GoesTo text g) (let is : n + size ≡ stop = omega (arith, whole, same) in is)
          (valid_behind text g size opening_is (subst (λ t. IsValidUpTo m t size) at_rest valid))

      pub refused_behind : (inner stop : Stopped) → IsStopped m part inner → NoneBy (ReadsIn g) text
          → stop ≡ record inner { size = opened + inner.size } → IsRefusedAt text stop g
      refused_behind inner stop stopped none same =
          let size : stop.size ≡ opened + inner.size = ap (λ (s : Stopped). s.size) same in (
            goes_behind inner.size stop.size stopped.valid size,
            inr (record {
              opened = opening_is;
              past = omega (arith, size, whole);
              stopped = subst (IsStopped m rest) (sym (ap (λ (s : Stopped). record s { size = s.size - n }) same
                  ∙ ap (λ k. record inner { size = k }) (let back : opened + inner.size - n ≡ inner.size = omega (arith, whole) in back)))
                  (subst (λ t. IsStopped m t inner) at_rest stopped);
              none = λ l reads. none l (opening_is, reads);
            }),
          )

      pub past_longer : (size most : ℕ) → most ≡ size - opened → NoFrontPast m part most → NonePast text size g
      past_longer size most same none = past_behind text g size (subst (λ t. NoFrontPast m t (size - n)) at_rest
          (subst (NoFrontPast m part) (let is : most ≡ size - n = omega (arith, same, whole) in is) none))

      pub found_in : (inner : Found) → IsCountedFront m part inner → (found : Found) → found ≡ record { size = opened + inner.size; counts = inner.counts }
          → IsFrontIn text found g
      found_in inner counted found is =
          let size : found.size ≡ opened + inner.size = ap (λ (f : Found). f.size) is in
          let back : found.size - n ≡ inner.size = omega (arith, size, whole) in
          record {
            opened = opening_is;
            past = omega (arith, size, whole);
            front = subst (λ t. IsCountedFront m t (record found { size = found.size - n })) at_rest
                (subst (IsCountedFront m part) (sym (ap (λ (f : Found). record f { size = f.size - n }) is
                ∙ ap (λ k. record inner { size = k }) (sym (ap (λ (f : Found). f.size - n) is) ∙ back))) counted);
          }

    opened_all : IsOpened g.opening text → IsOpenedTo g.opening text n
    opened_all is = record { inside = omega arith; begins = is; differs = λ short. absurd (omega (arith, short)) }

    -- The syntax stops at `inner` in `part`, which is behind the opening.
    pub refused_inside : (part : List ℕ) (inner stop : Stopped) → IsInside g text part → IsStopped m part inner → NoLiteral m part
        → stop ≡ record inner { size = n + inner.size } → IsRefusedAt text stop g
    refused_inside part inner stop is stopped none same = refused_behind n part (opened_all is.opened) (omega arith) is.is inner stop stopped
        (λ l reads. none l (subst (Reads m l) (sym is.is) reads.1)) same

    -- Without an opening, the form stops before the first byte if the syntax does.
    pub syntax_within : n ≡ 0 → IsPassed g text 0 → IsWithin m text 0
    syntax_within none passed more past inside front = passed.within more past inside (record {
      more = front.more;
      literal = front.literal;
      reads = (
        no_opening g.opening (take more text ++ front.more) none,
        subst (λ i. Reads m front.literal (drop i (take more text ++ front.more))) (sym none) front.reads,
      );
    })

    pub refused_start : n ≡ 0 → IsPassed g text 0 → (stop : Stopped) → IsStopped m text stop → IsRefusedAt text stop g
    refused_start none passed stop stopped = plain_refused stop none stopped (none_start m text (syntax_within none passed))
