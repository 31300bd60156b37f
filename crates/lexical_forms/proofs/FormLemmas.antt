-- Several forms: what has been found in the first of them, and what one form more adds.
use Rattle.lexical_forms.proofs.Common.{All, All-more, ArePassed, Bool, Form, Found, Furthest, GoesTo, HasFront}
use Rattle.lexical_forms.proofs.Common.{IsCountedFront, IsErrorOfForm, IsFormError, IsFoundForm, IsFoundFrontForm, IsFrontIn, IsGreatest, IsLed}
use Rattle.lexical_forms.proofs.Common.{IsLongestPast, IsLow, IsPassed, IsPast, IsRefusedAt, IsSomeAnd, Leads, List, NoForm, NoFrontBy, NoFrontPast, None}
use Rattle.lexical_forms.proofs.Common.{NonePast, Notation, Ok, Option, Reaches, Read, ReadsForm, ReadsIn, Some, Stopped, [], arith}
use Rattle.lexical_forms.proofs.Common.{cases_lt, common_steps, get_or_from_slice_get, false, false≢true, further, get_or, get_or-take}
use Rattle.lexical_forms.proofs.Common.{have_openings, if◌then◌else◌, inl}
use Rattle.lexical_forms.proofs.Common.{inr, length, length-take-le, nat_lt, nat_tests, reached, refl, slice_get, slice_get-get_or, slice_get_within}
use Rattle.lexical_forms.proofs.Common.{subst, sym, take, take_all, true, ℕ, ◌+◌, ◌<◌, ◌||◌, ◌∷◌, ◌≡◌, ◌≤◌, ◌⊎◌}
use Rattle.lexical_forms.specs.Additions.Forms.{IsBest}
use Rattle.lexical_forms.proofs.BehindLemmas.{front_in, goes_most, no_size, none_empty_in, none_in, one_reach}
use Rattle.lexical_forms.proofs.OpeningLemmas.{one_size}
use Rattle.lexical_forms.specs.declared.list.FormError.{FormError}

-- What holds of some value of an option holds of the value that it is.
pub some_of : {X : Type 0} (P : X → Type 0) (o : Option X) → IsSomeAnd o P → (x : X) × (o ≡ Some x) × P x
some_of P x1 holds = grind arith

-- An index at which there is a form is one of the list.
pub inside_of : (P : Form → Type 0) (forms : List Form) (i : ℕ) → IsSomeAnd (slice_get forms i) P → i < length forms
inside_of P forms i holds = let some = some_of P (slice_get forms i) holds in slice_get_within forms i some.0 some.1

-- The form at an index, of a list that is the same.
pub form_at : {X : Type 0} (P : X → Type 0) (forms list : List X) (g : X) (i : ℕ) → list ≡ forms
    → IsSomeAnd (slice_get forms i) P → (slice_get forms i ≡ Some (get_or list i g)) × P (get_or list i g)
form_at P forms list g i same holds = grind (arith, slice_get_within, slice_get-get_or)

-- What holds of all elements holds of the one at an index.
pub all_at : {X : Type 0} (P : X → Type 0) (xs : List X) (i : ℕ) (x : X) → slice_get xs i ≡ Some x → All P xs → P x
all_at P xs i x at all = subst P (get_or_from_slice_get xs i x x at) (all i x (slice_get_within xs i x at))

here_at : {X : Type 0} (P : X → Type 0) (forms : List X) (i : ℕ) (d : X) → IsSomeAnd (slice_get forms i) P → P (get_or forms i d)
here_at P forms i d holds = grind (arith, common_steps, some_of, slice_get-get_or, slice_get_within)

pub at_index : {X : Type 0} (P : X → Type 0) (forms list : List X) (g : X) (i : ℕ) → list ≡ forms → i < length list → P (get_or list i g)
    → IsSomeAnd (slice_get forms i) P
at_index P forms list g i same inside holds = grind (arith, common_steps, slice_get-get_or)

-- What holds of some form follows from what implies it.
pub each : {X : Type 0} (P Q : X → Type 0) (o : Option X) → ((x : X) → P x → Q x) → IsSomeAnd o P → IsSomeAnd o Q
each P Q (Some x) follows holds = follows x holds
each P Q None follows holds = holds

-- The form of the first ones of which a number is the greatest.
module _ (P : Form → ℕ → Type 0) (forms : List Form) where
  -- `IsUpTo i n` holds if no number of the form with the index `i` is greater than `n`.
  abbrev pub IsUpTo : ℕ → ℕ → Type 0
  IsUpTo i n = IsSomeAnd (slice_get forms i) (λ g. (m : ℕ) → P g m → m ≤ n)

  last_up_to : (i n k : ℕ) (d : Form) → IsUpTo i n → k < i + 1 → i ≤ k → (m : ℕ) → P (get_or forms k d) m → m ≤ n
  last_up_to i n k d most below last = here_at (λ g. (m : ℕ) → P g m → m ≤ n) forms k d
      (subst (λ k. IsUpTo k n) (let same : i ≡ k = omega (arith, below, last) in same) most)

  -- One form more is it, if none before it has as great a number.
  pub best_last : (i limit n : ℕ) → IsSomeAnd (slice_get forms i) (λ g. P g n) → IsUpTo i n
      → ((k : ℕ) (d : Form) → k < i → (m : ℕ) → P (get_or forms k d) m → limit ≤ m → m < n) → IsBest P forms (i + 1) limit i n
  best_last i limit n here most less = record {
    here = here;
    inside = omega arith;
    each = λ k d below m is more. elim (cases_lt k i) [
      | inl before ↦ (let low = less k d before m is more in (omega (arith, low), λ _. low))
      | inr last ↦ (last_up_to i n k d most below last m is, λ before. absurd (omega (arith, before, last)))
    ];
  }

  -- One form more has no greater number, or none that counts. If not, all have been asked.
  module _ (i limit index n : ℕ) (old : IsBest P forms i limit index n) where
    pub best_stays : (most : ℕ) → IsUpTo i most → (most ≤ n) ⊎ (most < limit) → IsBest P forms (i + 1) limit index n
    best_stays most low less = record {
      here = old.here;
      inside = let inside = old.inside in omega (arith, inside);
      each = λ k d below m is more. elim (cases_lt k i) [
        | inl before ↦ old.each k d before m is more
        | inr last ↦ (
          few m (last_up_to i most k d low below last m is) more less,
          λ before. absurd (let inside = old.inside in
              omega (arith, before, last, inside)),
        )
      ];
    } where
      few : (m : ℕ) → m ≤ most → limit ≤ m → (most ≤ n) ⊎ (most < limit) → m ≤ n
      few m low more (inl less) = omega (arith, low, less)
      few m low more (inr none) = absurd (omega (arith, low, more, none))

    pub best_all : length forms ≤ i → limit ≡ 0 → IsGreatest P forms index n
    best_all end all = record {
      here = old.here;
      before = λ k d below m is.
          let within = inside_of (λ g. P g n) forms index old.here in
          let size = length-take-le index forms (omega (arith, within)) in
          let first : k < index = omega (arith, below, size) in
          (old.each k d (omega (arith, first, within, end)) m (subst (λ g. P g m) (get_or-take index forms k d first) is) (omega (arith, all))).1 first;
      others = λ k d below m is. (old.each k d (omega (arith, below, end)) m is (omega (arith, all))).0;
    }

-- How far the first forms go.
module _ (forms : List Form) (text : List ℕ) where
  abbrev pub IsFarthest : ℕ → Option (ℕ × ℕ) → Type 0
  IsFarthest i None = i ≡ 0
  IsFarthest i (Some best) = IsBest (GoesTo text) forms i 0 best.0 best.1

  pub far_more : (i : ℕ) (d : Form) → i < length forms → (size : ℕ) → GoesTo text (get_or forms i d) size → (best : Option (ℕ × ℕ))
      → IsFarthest i best → IsFarthest (i + 1) (further best i size)
  far_more i d inside size is best old = go best old where
    here : IsSomeAnd (slice_get forms i) (λ g. GoesTo text g size)
    here = at_index (λ g. GoesTo text g size) forms forms d i refl inside is

    most : IsUpTo (GoesTo text) forms i size
    most = at_index (λ g. (m : ℕ) → GoesTo text g m → m ≤ size) forms forms d i refl inside
        (λ m other. one_size (ReadsIn (get_or forms i d)) text m size other is)

    go : (best : Option (ℕ × ℕ)) → IsFarthest i best → IsFarthest (i + 1) (further best i size)
    go None old = best_last (GoesTo text) forms i 0 size here most (λ k d below. absurd (omega (arith, below, old)))
    go (Some best) old = by (nat_lt best.1 size) refl where
      by : (b : Bool) → nat_lt best.1 size ≡ b → IsFarthest (i + 1) (if b then Some (i, size) else Some best)
      by true longer = best_last (GoesTo text) forms i 0 size here most
          (λ k d below m is least. let low = (old.each k d below m is least).0 in grind (arith, nat_tests))
      by false shorter = best_stays (GoesTo text) forms i 0 best.0 best.1 old size most (inl (grind (arith, nat_tests)))

-- The first form that reads the text.
pub found_is : (forms : List Form) (text : List ℕ) (i : ℕ) (d : Form) (read : Read) → i < length forms
    → ReadsForm text read (get_or forms i d) × (read.opened ≡ (get_or forms i d).opening.size) → NoForm (take i forms) text
    → IsFoundForm forms text (Ok (i, read))
found_is forms text i d read inside is before = record {
  found = (
    record { reads = at_index (ReadsForm text read) forms forms d i refl inside is.0; before = before },
    at_index (λ form. read.opened ≡ form.opening.size) forms forms d i refl inside is.1,
  );
  none = λ err. absurd (false≢true err);
  furthest = tt;
}

-- A form of a list without openings has none.
pub no_one : (a b : Bool) → (a || b) ≡ false → (a ≡ false) × (b ≡ false)
no_one false b is = (refl, is)
no_one true b is = absurd (false≢true (sym is))

pub plain_at : (forms : List Form) (i : ℕ) (d : Form) → i < length forms → have_openings forms ≡ false → (get_or forms i d).opening.size ≡ 0
plain_at [] i d inside none = absurd (omega (arith, inside))
plain_at (form ∷ forms) ℕ.zero d inside none = no_size form.opening.size _ refl (no_one _ (have_openings forms) none).0
plain_at (form ∷ forms) (ℕ.suc i) d inside none = plain_at forms i d (omega (arith, inside)) (no_one _ (have_openings forms) none).1

-- All forms have been tried.
module _ (forms : List Form) (text : List ℕ) (i : ℕ) (end : length forms ≤ i) where
  pub all_tried : (P : Form → Type 0) → All P (take i forms) → All P forms
  all_tried P all = subst (All P) (take_all i forms end) all

-- Of the first `i` forms, no front has more than `reached` bytes, and the first as many, more than `size`, is `longest`, if there is one.
module _ (forms : List Form) (text : List ℕ) (size : ℕ) where
  abbrev Past : ℕ → Form → Type 0
  Past reached g = NonePast text reached g

  pub record IsFound (reached form : ℕ) (found : Found) : Type 0 where
    pub same : reached ≡ found.size
    pub here : IsSomeAnd (slice_get forms form) (IsFrontIn text found)
    pub far : size < found.size
    pub before : All (λ g. (n : ℕ) → HasFront text g n → n < found.size) (take form forms)

  abbrev pub IsReached : ℕ → Option (ℕ × Found) → Type 0
  IsReached reached None = reached ≡ size
  IsReached reached (Some best) = IsFound reached best.0 best.1

  pub record AreWithin (i reached : ℕ) (longest : Option (ℕ × Found)) : Type 0 where
    pub low : size ≤ reached
    pub past : All (Past reached) (take i forms)
    pub best : IsReached reached longest

  up_to : (reached : ℕ) (g : Form) → Past reached g → (n : ℕ) → HasFront text g n → n ≤ reached
  up_to reached g past n front = elim (cases_lt reached n) [
    | inl more ↦ absurd (past n more front.1.within front.0 front.1.reads)
    | inr low ↦ low
  ]

  module _ (i : ℕ) (d : Form) (inside : i < length forms) (reached : ℕ) (longest : Option (ℕ × Found)) (old : AreWithin i reached longest) where
    -- One form more, which has no longer front.
    pub front_stays : Past reached (get_or forms i d) → AreWithin (i + 1) reached longest
    front_stays none = record { low = old.low; past = All-more (Past reached) forms i d inside old.past none; best = old.best }

    -- It has a longer one.
    pub front_more : (found : Found) → (reached < found.size) × IsFrontIn text found (get_or forms i d) → AreWithin (i + 1) found.size (Some (i, found))
    front_more found is = record {
      low = omega (arith, old.low, is.0);
      past = All-more (Past found.size) forms i d inside (λ k e below n more. old.past k e below n (omega (arith, more, is.0)))
          (front_in (get_or forms i d) text found is.1).no_longer;
      best = record {
        same = refl;
        here = at_index (IsFrontIn text found) forms forms d i refl inside is.1;
        far = omega (arith, old.low, is.0);
        before = λ k e below n front. let most = up_to reached (get_or (take i forms) k e) (old.past k e below) n front in omega (arith, most, is.0);
      };
    }

  -- All forms have been asked.
  pub longest_past_is : (i : ℕ) → length forms ≤ i → (reached : ℕ) (longest : Option (ℕ × Found)) → AreWithin i reached longest
      → IsLongestPast forms text size longest
  longest_past_is i end reached None is = subst (λ k. All (Past k) forms) is.best (all_tried forms text i end (Past reached) is.past)
  longest_past_is i end reached (Some best) is =
      let past = all_tried forms text i end (Past reached) is.past in
      record {
        longest = record {
          here = each (IsFrontIn text best.1) (λ g. HasFront text g best.1.size) (slice_get forms best.0)
              (λ g found. (found.front.literal, front_in g text best.1 found)) is.best.here;
          before = is.best.before;
          others = λ k d below n front. let most = up_to reached (get_or forms k d) (past k d below) n front in omega (arith, most, is.best.same);
        };
        counted = is.best.here;
        past = is.best.far;
      }

-- The longest front has no more bytes.
pub no_longer_front : (m : Notation) (text : List ℕ) (size : ℕ) (found : Found) → IsCountedFront m text found → found.size ≤ size → NoFrontPast m text size
no_longer_front m text size found is low more past = is.reads.no_longer more (omega (arith, low, past))

-- The longest front of all.
pub front_is : (forms : List Form) (text : List ℕ) (size index : ℕ) (found : Found) → IsLongestPast forms text size (Some (index, found))
    → IsFoundFrontForm forms text (Ok (index, found))
front_is forms text size index found is = record {
  longest = is.longest;
  found = is.counted;
  error = tt;
}

-- No front has a byte.
pub no_front : (forms : List Form) (text : List ℕ) → IsLongestPast forms text 0 None → All (λ g. NoFrontBy (ReadsIn g) text) forms
no_front forms text none k d below ℕ.zero within l reads = none_empty_in (get_or forms k d) l reads
no_front forms text none k d below (ℕ.suc n) within l reads = none k d below (ℕ.suc n) (omega arith) within l reads

-- The first form does not read the text.
pub first_none : (forms : List Form) (text : List ℕ) (stop : Stopped) → IsSomeAnd (slice_get forms 0) (IsRefusedAt text stop) → NoForm (take 1 forms) text
first_none [] text stop here k d below = absurd here
first_none (form ∷ forms) text stop here ℕ.zero d below = none_in form text stop here
first_none (form ∷ forms) text stop here (ℕ.suc k) d below = absurd (omega (arith, below))

-- Which form has the error of a list.
module _ (forms : List Form) (text : List ℕ) where
  -- One form more, which stops at `best.stop`.
  module _ (i limit : ℕ) (best : Furthest) (at : best.form ≡ i) (here : IsSomeAnd (slice_get forms i) (IsRefusedAt text best.stop))
      (reach : IsSomeAnd (slice_get forms i) (λ g. Reaches text g best.reach)) where
    most : IsUpTo (Reaches text) forms i best.reach
    most = each (λ g. Reaches text g best.reach) (IsLow text best.reach) (slice_get forms i)
        (λ g is m other. let same = one_reach g text m best.reach other is in omega (arith, same)) reach

    leads : ((k : ℕ) (d : Form) → k < i → (m : ℕ) → Reaches text (get_or forms k d) m → limit ≤ m → m < best.reach) → Leads forms text (i + 1) limit best
    leads less = record {
      here = subst (λ k. IsSomeAnd (slice_get forms k) (IsRefusedAt text best.stop)) (sym at) here;
      furthest = subst (λ k. IsBest (Reaches text) forms (i + 1) limit k best.reach) (sym at)
          (best_last (Reaches text) forms i limit best.reach reach most less);
    }

    -- It leads if those before it are passed over, if none has been asked, or if it goes further than the one that led.
    pub leads_first : ArePassed forms text i limit → Leads forms text (i + 1) limit best
    leads_first passed = leads
        (λ k d below m is least. let one = passed k d below in let top = one.2.low m is in absurd (omega (arith, one.1, top, least)))

    pub leads_more : (other : Furthest) → Leads forms text i limit other → other.reach < best.reach → Leads forms text (i + 1) limit best
    leads_more other old less = leads (λ k d below m is least. let low = (old.furthest.each k d below m is least).0 in omega (arith, low, less))

    pub leads_less : (other : Furthest) → Leads forms text i limit other → best.reach ≤ other.reach → Leads forms text (i + 1) limit other
    leads_less other old low = record {
      here = old.here;
      furthest = best_stays (Reaches text) forms i limit other.form other.reach old.furthest best.reach most (inl low);
    }

  module _ (i limit : ℕ) (best : Furthest) (old : Leads forms text i limit best) where
    -- One form more goes no further.
    pub left_out : IsSomeAnd (slice_get forms i) (IsLow text best.reach) → Leads forms text (i + 1) limit best
    left_out low = record {
      here = old.here;
      furthest = best_stays (Reaches text) forms i limit best.form best.reach old.furthest best.reach low (inl (omega arith));
    }

    pub no_further : (stop : Stopped) → IsSomeAnd (slice_get forms i) (IsRefusedAt text stop) → stop.size < best.reach → Leads forms text (i + 1) limit best
    no_further stop here less = left_out (each (IsRefusedAt text stop) (IsLow text best.reach) (slice_get forms i)
        (λ g is n reaches. let most = goes_most g text stop is n reaches in omega (arith, most, less)) here)

  -- One form more is passed over, and goes up to `size` at most.
  pub led_past : (i limit more size : ℕ) (d : Form) (furthest : Option Furthest) → i < length forms → IsLed forms text i limit furthest → limit ≤ more
      → size < more → IsPassed (get_or forms i d) text size → IsLed forms text (i + 1) more furthest
  led_past i limit more size d None inside old less past passed = λ k e below. elim (cases_lt k i) [
    | inl before ↦ (let one = old k e before in (one.0, omega (arith, one.1, less), one.2))
    | inr last ↦ (
      size,
      past,
      here_at (λ g. IsPassed g text size) forms k e
          (subst (λ k. IsSomeAnd (slice_get forms k) (λ g. IsPassed g text size)) (let same : i ≡ k = omega (arith, below, last) in same)
          (at_index (λ g. IsPassed g text size) forms forms d i refl inside passed)),
    )
  ]
  led_past i limit more size d (Some best) inside old less past passed = record {
    here = old.here;
    furthest = best_stays (Reaches text) forms i more best.form best.reach (record {
      here = old.furthest.here;
      inside = old.furthest.inside;
      each = λ k d below m is least. old.furthest.each k d below m is (omega (arith, less, least));
    }) size (at_index (IsLow text size) forms forms d i refl inside passed.low) (inr past);
  }

  -- All forms have been asked, and none that has been passed over goes as far, or is before the best.
  pub leads_past : (i bound : ℕ) → length forms ≤ i → (best : Furthest) → IsPast best bound → Leads forms text i (bound + 1) best
      → Leads forms text (length forms) 0 best
  leads_past i bound end best past is = record {
    here = is.here;
    furthest = record {
      here = is.furthest.here;
      inside = inside_of (IsRefusedAt text best.stop) forms best.form is.here;
      each = λ k d below m reaches _. elim (cases_lt bound m) [
        | inl more ↦ is.furthest.each k d (omega (arith, below, end)) m reaches (omega (arith, more))
        | inr low ↦ few k m low past
      ];
    };
  } where
    few : (k m : ℕ) → m ≤ bound → IsPast best bound → (m ≤ best.reach) × (k < best.form → m < best.reach)
    few k m low (inl past) = (omega (arith, low, past), λ _. omega (arith, low, past))
    few k m low (inr (first, same)) = (omega (arith, low, same), λ before. absurd (omega (arith, before, first)))

  pub leads_all : (i : ℕ) → length forms ≤ i → (best : Furthest) → Leads forms text i 0 best → Leads forms text (length forms) 0 best
  leads_all i end best is = record {
    here = is.here;
    furthest = record {
      here = is.furthest.here;
      inside = inside_of (IsRefusedAt text best.stop) forms best.form is.here;
      each = λ k d below. is.furthest.each k d (omega (arith, below, end));
    };
  }

  -- No form that has been passed over goes beyond the beginning, and all have been.
  pub all_passed : (i bound : ℕ) (furthest : Option Furthest) → length forms ≤ i → furthest ≡ None → bound ≡ 0 → IsLed forms text i (bound + 1) furthest
      → ArePassed forms text (length forms) 1
  all_passed i bound furthest end none zero led k d below =
      let one = subst (IsLed forms text i (bound + 1)) none led k d (omega (arith, below, end)) in (one.0, omega (arith, one.1, zero), one.2)

  pub leads_start : (stop : Stopped) → IsSomeAnd (slice_get forms 0) (IsRefusedAt text stop) → ArePassed forms text (length forms) 1
      → Leads forms text (length forms) 0 (record { form = 0; stop = stop; reach = 0 })
  leads_start stop here passed = record {
    here = here;
    furthest = record {
      here = from (slice_get forms 0) refl here;
      inside = inside_of (IsRefusedAt text stop) forms 0 here;
      each = λ k d below m is _. (let top = low k d below m is in omega (arith, top), λ before. absurd (omega (arith, before)));
    };
  } where
    low : (k : ℕ) (d : Form) → k < length forms → (m : ℕ) → Reaches text (get_or forms k d) m → m ≤ 0
    low k d below m is = let one = passed k d below in let top = one.2.low m is in omega (arith, one.1, top)

    from : (o : Option Form) → slice_get forms 0 ≡ o → IsSomeAnd o (IsRefusedAt text stop) → IsSomeAnd o (λ g. Reaches text g 0)
    from None at here = here
    from (Some g) at here =
        let most = low 0 g (slice_get_within forms 0 g at) (reached g text stop.size)
        (subst (λ h. Reaches text h (reached g text stop.size)) (sym (get_or_from_slice_get forms 0 g g at)) (stop.size, here.0, refl)) in
        (stop.size, here.0, (let none : 0 ≡ reached g text stop.size = omega (arith, most) in none))

  -- The error of the form that leads all forms.
  pub error_is : (best : Furthest) → Leads forms text (length forms) 0 best → (error : FormError) → error.form ≡ best.form
      → IsSomeAnd (slice_get forms best.form) (IsErrorOfForm text error) → IsFormError forms text error
  error_is best is error same own = record {
    furthest = (
      best.reach,
      subst (λ k. IsGreatest (Reaches text) forms k best.reach) (sym same)
          (best_all (Reaches text) forms (length forms) 0 best.form best.reach is.furthest (omega arith) refl),
    );
    refusal = subst (λ k. IsSomeAnd (slice_get forms k) (IsErrorOfForm text error)) (sym same) own;
  }
