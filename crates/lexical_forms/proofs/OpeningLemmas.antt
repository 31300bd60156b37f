-- Forms with an opening: what a syntax reads behind it, in the text before which it stands.
use Rattle.lexical_forms.proofs.Common.{Begins, BeginsBy, Bool, Form, IsFront, IsOpened, IsOpenedTo, IsValidBy, IsValidUpTo, List, Literal, NoFrontPast}
use Rattle.lexical_forms.proofs.Common.{NoLiteral, NoneBy, NonePast, Notation, ReadsIn, Reads, ReadsFront, ReadsFrontBy, [], ap, append-nil}
use Rattle.lexical_forms.proofs.Common.{append_assoc, arith, behind, cases_lt, drop, drop-append-le, drop-take, drop_all, drop_at, false, false≢true, get_or}
use Rattle.lexical_forms.proofs.Common.{get_or-append_right, get_or-drop, get_or-take, get_or_append_left, inl, inr, is_absent, is_present}
use Rattle.lexical_forms.proofs.Common.{le_antisymm, length, length-append, length-drop, length-take-le, nat_tests, not, notation_of, refl}
use Rattle.lexical_forms.proofs.Common.{spelling, spells, subst, sym, take, true, ℕ, ◌&&◌, ◌++◌, ◌+◌, ◌-◌, ◌<◌, ◌||◌, ◌∙◌, ◌∷◌, ◌≡◌, ◌≤◌}
use Rattle.lexical_forms.specs.declared.opening.Opening.{Opening}

-- A text has one longest front that some literal begins with, and one that is a literal. A literal begins with itself.
module _ (R : Literal → List ℕ → Type 0) (text : List ℕ) where
  pub one_size : (a b : ℕ) → IsValidBy R text a → IsValidBy R text b → a ≤ b
  one_size a b is other = let longer = λ (below : b < a). other.no_longer a below is.within is.front in grind arith

  pub one_valid : (a b : ℕ) → IsValidBy R text a → IsValidBy R text b → a ≡ b
  one_valid a b is other = le_antisymm (one_size a b is other) (one_size b a other is)

  abbrev pub begins_whole : (l : Literal) → R l text → BeginsBy R text
  begins_whole l reads = record { more = []; literal = l; reads = subst (R l) (sym (append-nil text)) reads }

  pub one_front : (l k : Literal) (a b : ℕ) → ReadsFrontBy R l text a → ReadsFrontBy R k text b → a ≤ b
  one_front l k a b is other = let longer = λ (below : b < a). other.no_longer a below is.within l is.reads in grind arith

empty_both : (xs ys : List ℕ) → [] ≡ xs ++ ys → ([] ≡ xs) × ([] ≡ ys)
empty_both [] ys is = (refl, is)
empty_both (x ∷ xs) ys is = absurd (let no = ap length is in omega (arith, no))

-- A literal has a byte.
pub no_empty : (m : Notation) → NoLiteral m []
no_empty m l reads =
    let a = empty_both l.sign _ reads.whole in let b = empty_both l.prefix _ a.1 in let integer = empty_both l.integer _ b.1 in
    let point = empty_both l.point _ integer.1 in let c = empty_both l.fraction _ point.1 in let character = empty_both l.exponent_character _ c.1 in
    false≢true (subst (λ e. (is_present [] || (not (is_absent []) || not (is_absent e))) ≡ true) (sym character.0)
    (subst (λ p. (is_present [] || (not (is_absent p) || not (is_absent l.exponent_character))) ≡ true) (sym point.0)
    (subst (λ i. (is_present i || (not (is_absent l.point) || not (is_absent l.exponent_character))) ≡ true) (sym integer.0)
    reads.literal.spelled.some_number)))

pub none_empty : (g : Form) → NoneBy (ReadsIn g) []
none_empty g l reads = no_empty (notation_of g.syntax) l
    (subst (Reads (notation_of g.syntax) l) (drop_all (g.opening.size) [] (omega arith)) reads.1)

-- Both are true if their conjunction is.
pub both : (a b : Bool) → (a && b) ≡ true → (a ≡ true) × (b ≡ true)
both true b is = (refl, is)
both false b is = absurd (false≢true is)

-- A front of a text with more bytes behind it has the bytes of the text.
pub front_byte : (text more : List ℕ) (size index : ℕ) → index < size → size ≤ length text → get_or (take size text ++ more) index 0 ≡ get_or text index 0
front_byte text more size index below within =
    get_or_append_left (take size text) more 0 index (let same = length-take-le size text within in omega (arith, same, below))
    ∙ get_or-take size text index 0 below

module _ (opening : Opening) where
  -- The byte of an opening may be there.
  pub spells_own : (index : ℕ) → spells opening index (get_or opening.bytes index 0) ≡ true
  spells_own index = grind (arith, nat_tests)

  module _ (text : List ℕ) where
    -- An opening without bytes is there.
    pub no_opening : opening.size ≡ 0 → IsOpened opening text
    no_opening none = record { within = omega (arith, none); each = λ index below. absurd (omega (arith, below, none)) }

    -- A text does not begin with more than its first bytes.
    pub not_begun : (size more : ℕ) → IsOpenedTo opening text size → size < more → more ≤ opening.size → Begins opening text more → ⊥
    not_begun size more is past inside begins = false≢true (
        sym (is.differs (omega (arith, past, inside)) (let within = begins.within in omega (arith, past, within))) ∙ begins.each size past)

    pub not_opened : (size : ℕ) → IsOpenedTo opening text size → size < opening.size → IsOpened opening text → ⊥
    not_opened size is short opened = not_begun size (opening.size) is short (omega arith) opened

    -- A front with more bytes, which are other ones, begins as the text does.
    pub begins_front : (n size : ℕ) (more : List ℕ) → n ≤ size → size ≤ length text → Begins opening text n → Begins opening (take size text ++ more) n
    begins_front n size more less within is = record {
      within = let same = length-take-le size text within in let all = length-append (take size text) more in omega (arith, same, all, less);
      each = λ index below. subst (λ b. spells opening index b ≡ true) (sym (front_byte text more size index (omega (arith, below, less)) within))
          (is.each index below);
    }

    pub begins_text : (n size : ℕ) (more : List ℕ) → n ≤ size → size ≤ length text → Begins opening (take size text ++ more) n → Begins opening text n
    begins_text n size more less within is = record {
      within = omega (arith, less, within);
      each = λ index below. subst (λ b. spells opening index b ≡ true) (front_byte text more size index (omega (arith, below, less)) within)
          (is.each index below);
    }

    begins_less : (n more : ℕ) → n ≤ more → Begins opening text more → Begins opening text n
    begins_less n more less is = record {
      within = let within = is.within in omega (arith, less, within);
      each = λ index below. is.each index (omega (arith, below, less));
    }

-- The first bytes of a text that are those of an opening, with the others of it behind them.
module _ (opening : Opening) where
  pub spelling_size : length (spelling opening) ≡ opening.size
  spelling_size = length-take-le opening.size opening.bytes opening.within

  module _ (text : List ℕ) (size : ℕ) (inside : size ≤ opening.size) (begins : Begins opening text size) (more : List ℕ) where
    front_size : length (take size text) ≡ size
    front_size = length-take-le size text begins.within

    left_size : length (drop size (spelling opening)) ≡ opening.size - size
    left_size = length-drop size (spelling opening) ∙ ap (λ k. k - size) spelling_size

    pub completed_size : length (take size text ++ drop size (spelling opening)) ≡ opening.size
    completed_size = let all = length-append (take size text) (drop size (spelling opening)) in omega (arith, all, front_size, left_size, inside)

    byte_left : (index : ℕ) → size ≤ index → index < opening.size
        → get_or (take size text ++ (drop size (spelling opening) ++ more)) index 0 ≡ get_or opening.bytes index 0
    byte_left index low below =
        get_or-append_right (take size text) (drop size (spelling opening) ++ more) size index 0 front_size low
        ∙ get_or_append_left (drop size (spelling opening)) more 0 (index - size) (omega (arith, left_size, low, below))
        ∙ get_or-drop size (spelling opening) (index - size) 0
        ∙ ap (λ k. get_or (spelling opening) k 0) (let same : size + (index - size) ≡ index = omega (arith, low) in same)
        ∙ get_or-take opening.size opening.bytes index 0 below

    pub completed : IsOpened opening (take size text ++ (drop size (spelling opening) ++ more))
    completed = record {
      within =
          let all = length-append (take size text) (drop size (spelling opening) ++ more) in let rest = length-append (drop size (spelling opening)) more in
          omega (arith, all, rest, front_size, left_size, inside);
      each = λ index below. elim (cases_lt index size) [
        | inl before ↦ subst (λ b. spells opening index b ≡ true)
            (sym (front_byte text (drop size (spelling opening) ++ more) size index before begins.within)) (begins.each index before)
        | inr low ↦ subst (λ b. spells opening index b ≡ true) (sym (byte_left index low below)) (spells_own opening index)
      ];
    }

-- What is behind the first bytes of a front.
pub behind_take : (n size : ℕ) (text : List ℕ) → n ≤ size → drop n (take size text) ≡ take (size - n) (drop n text)
behind_take n size text less =
    let same : size ≡ n + (size - n) = omega (arith, less) in ap (λ k. drop n (take k text)) same ∙ drop-take n (size - n) text

behind_more : (n size : ℕ) (text more : List ℕ) → n ≤ size → size ≤ length text → drop n (take size text ++ more) ≡ take (size - n) (drop n text) ++ more
behind_more n size text more less within =
    let same = length-take-le size text within in
    drop-append-le n (take size text) more (omega (arith, same, less)) ∙ ap (λ xs. xs ++ more) (behind_take n size text less)

module _ (text : List ℕ) (g : Form) where
  abbrev m : Notation
  m = notation_of g.syntax

  abbrev n : ℕ
  n = g.opening.size

  abbrev rest : List ℕ
  rest = behind g text

  pub rest_size : n ≤ length text → length rest + n ≡ length text
  rest_size less = let same = length-drop n text in omega (arith, same, less)

  pub begins_of : (size : ℕ) → size ≤ length text → Begins g.opening (take size text) n → Begins g.opening text n
  begins_of size within is =
      let same = length-take-le size text within in let long = is.within in
      begins_text g.opening text n size [] (omega (arith, same, long)) within (subst (λ t. Begins g.opening t n) (sym (append-nil (take size text))) is)

  -- FRONTS

  pub front_behind : (size : ℕ) → n ≤ size → size ≤ length text → BeginsBy (ReadsIn g) (take size text) → IsFront m (take (size - n) rest)
  front_behind size less within is = record {
    more = is.more;
    literal = is.literal;
    reads = subst (Reads m is.literal) (behind_more n size text is.more less within) is.reads.1;
  }

  pub front_before : (size : ℕ) → IsOpened g.opening text → n ≤ size → size ≤ length text → IsFront m (take (size - n) rest)
      → BeginsBy (ReadsIn g) (take size text)
  front_before size opened less within is = record {
    more = is.more;
    literal = is.literal;
    reads = (
      begins_front g.opening text n size is.more less within opened,
      subst (Reads m is.literal) (sym (behind_more n size text is.more less within)) is.reads,
    );
  }

  pub valid_behind : (size : ℕ) → IsOpened g.opening text → IsValidUpTo m rest size → IsValidBy (ReadsIn g) text (n + size)
  valid_behind size opened is =
      let all = rest_size opened.within in let low = is.within in record {
        within = omega (arith, all, low);
        front = front_before (n + size) opened (omega arith) (omega (arith, all, low))
            (subst (λ k. IsFront m (take k rest)) (let same : size ≡ n + size - n = omega arith in same) is.front);
        no_longer = λ more past inside front.
            is.no_longer (more - n) (omega (arith, past)) (omega (arith, all, inside)) (front_behind more (omega (arith, past)) inside front);
      }

  pub valid_inside : (size : ℕ) → IsOpened g.opening text → n ≤ size → IsValidBy (ReadsIn g) text size → IsValidUpTo m rest (size - n)
  valid_inside size opened past is =
      let all = rest_size opened.within in let low = is.within in record {
        within = omega (arith, all, low, past);
        front = front_behind size past is.within is.front;
        no_longer = λ more longer inside front. is.no_longer (n + more) (omega (arith, longer, past)) (omega (arith, all, inside))
            (front_before (n + more) opened (omega arith) (omega (arith, all, inside))
            (subst (λ k. IsFront m (take k rest)) (let same : more ≡ n + more - n = omega arith in same) front));
      }

  module _ (size : ℕ) (is : IsOpenedTo g.opening text size) (short : size < n) where
    -- The text up to there, what is left of the opening, and a literal.
    pub front_opened : IsFront m [] → BeginsBy (ReadsIn g) (take size text)
    front_opened some = record {
      more = drop size (spelling g.opening) ++ some.more;
      literal = some.literal;
      reads = (
        completed g.opening text size is.inside is.begins some.more,
        subst (Reads m some.literal) (sym (ap (drop n) (sym (append_assoc (take size text) (drop size (spelling g.opening)) some.more))
            ∙ drop_at (take size text ++ drop size (spelling g.opening)) some.more n (completed_size g.opening text size is.inside is.begins some.more)))
            some.reads,
      );
    }

    -- No text with more of its bytes begins with the opening.
    pub not_longer : (more : ℕ) (tail : List ℕ) → size < more → more ≤ length text → IsOpened g.opening (take more text ++ tail) → ⊥
    not_longer more tail past inside opened = not_begun g.opening text size (size + 1) is (omega arith) (omega (arith, short))
        (begins_text g.opening text (size + 1) more tail (omega (arith, past)) inside
        (begins_less g.opening (take more text ++ tail) (size + 1) n (omega (arith, short)) opened))

    -- No front is a literal.
    pub past_before : (least : ℕ) → NonePast text least g
    past_before least more past inside l reads = not_opened g.opening text size is short
        (begins_of more inside reads.0)

  -- The longest front behind the opening.
  pub opened_front : (l : Literal) (size : ℕ) → IsOpened g.opening text → n ≤ size → ReadsFront m l rest (size - n) → ReadsFrontBy (ReadsIn g) l text size
  opened_front l size opened past is =
      let all = rest_size opened.within in let low = is.within in let within : size ≤ length text = omega (arith, all, low, past) in
      record {
        within = within;
        reads = (
          subst (λ t. Begins g.opening t n) (append-nil (take size text)) (begins_front g.opening text n size [] past within opened),
          subst (Reads m l) (sym (behind_take n size text past)) is.reads,
        );
        no_longer = λ more longer inside l reads. is.no_longer (more - n) (omega (arith, longer, past)) (omega (arith, all, inside)) l
            (subst (Reads m l) (behind_take n more text (omega (arith, longer, past))) reads.1);
      }

  -- If no longer one is behind the opening, none is a literal.
  pub past_behind : (size : ℕ) → NoFrontPast m rest (size - n) → NonePast text size g
  past_behind size none more past inside l reads =
      let same = length-take-le more text inside in let opened = reads.0.within in
      let less : n ≤ more = omega (arith, same, opened) in let all = rest_size (omega (arith, less, inside)) in
      let read = subst (Reads m l) (behind_take n more text less) reads.1 in
      elim (cases_lt (size - n) (more - n)) [
        | inl longer ↦ none (more - n) longer (omega (arith, all, inside)) l read
        | inr low ↦ no_empty m l (subst (λ k. Reads m l (take k rest)) (let zero : more - n ≡ 0 = omega (arith, low, past, less) in zero) read)
      ]
