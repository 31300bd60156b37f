-- Bytes that end a number: no form goes on with them.
use Rattle.lexical_forms.proofs.Common.{All, All-from_recursion, BeginsBy, Bool, Bor, Candidate, Form, FormList, Found, HasFront, HasNoWord, HasSumsOf, IsFrontIn}
use Rattle.lexical_forms.proofs.Common.{IsGreatest, IsOver, IsPicked, map, slice_get_within, tried}
use Rattle.lexical_forms.proofs.Common.{IsMade, IsOpenedTo, IsSomeAnd, IsTrue, IsWithin, List, None, Option, PlaysNoRole, PointsBack, Reads, ReadsIn, Some, Tokens, [], ap, arith, behind}
use Rattle.lexical_forms.proofs.Common.{byte_before, cases_lt, drop, false, false≢true, get_or, get_or-drop, Grammar, Part, gives_back, has_float, inl}
use Rattle.lexical_forms.proofs.Common.{nat_lt, signs, inr, is_in, is_word_byte, kind_with}
use Rattle.lexical_forms.proofs.Common.{length, length-drop, list_any, more_of, nat_tests, not, notation_of, option_map, other_case, raw, refl, slice_get}
use Rattle.lexical_forms.proofs.Common.{slice_get-get_or, spells, subst, suffix_size, sym, take, takes_point, true, unwrap_or, ℕ, ◌&&◌, ◌++◌, ◌+◌, ◌-◌}
use Rattle.lexical_forms.proofs.Common.{◌<◌, ◌==◌, ◌||◌, ◌∙◌, ◌∷◌, ◌≡◌, ◌≤◌}
use Rattle.lexical_forms.specs.Additions.Forms.{IsOutside, LetsEnd, ends_at, is_end}
use Rattle.lexical_forms.specs.Additions.Token.{IsBegunFirst, IsEndedAt, IsLast}
use Rattle.lexical_forms.specs.declared.list.PointsBack.TheVariants as points
use Rattle.lexical_base.proofs.ValueLemmas.{value_is}
use Rattle.lexical_base.specs.Digits.{byte_value}
use Rattle.lexical_util.specs.Layout as layout
use Rattle.lexical_util.specs.Unfoldable.{cased}
use Rattle.lexical_util.specs.declared.format_flags.Part.TheVariants as parts
use Rattle.lexical_literal.proofs.FieldLemmas.{byte_is, exponent_is, point_is, prefix_is, radix_fits, suffix_is, untested}
use Rattle.lexical_literal.specs.Additions.Fields.{AreFields, worded}
use Rattle.lexical_literal.specs.Syntax.{IsSyntax}
use Rattle.lexical_literal.specs.declared.syntax.Grammar.TheInside.{Inside}
use Rattle.lexical_forms.proofs.BehindLemmas.{front_in}
use Rattle.lexical_forms.proofs.FormLemmas.{all_at, no_one}
use Rattle.lexical_forms.proofs.LeadingLemmas.{no_longer, over, suffix_within, word_within}
use Rattle.lexical_forms.proofs.LongestLemmas.{all_tried, end_within, first_at, read_front, read_sums, size_within}
use Rattle.lexical_forms.proofs.OpeningLemmas.{begins_whole, front_behind, front_byte, no_opening}
use Rattle.lexical_forms.proofs.StrangerLemmas.{silent_of, spare_of}
use Rattle.lexical_forms.proofs.TokenLemmas.{kept, some_is, with_suffix}
use Rattle.lexical_literal.specs.Additions.Literal.{IsSummed}
use Rattle.lexical_literal.specs.Additions.Stop.{HasBegun}
use Rattle.lexical_forms.specs.declared.suffix.Suffixes.{Suffixes}
use Rattle.lexical_literal.specs.declared.kind.Kind.{Kind}
use Rattle.lexical_literal.specs.declared.stop.Begun.{Begun}
use Rattle.std.specs.List.{AllByRecursion}

-- It is of no word, and not the point.
end_is : (byte : ℕ) → is_end byte ≡ true → (is_word_byte byte ≡ false) × ((byte == 46) ≡ false)
end_is byte on = grind (arith, nat_tests)

no_point : (back : PointsBack) (o : Option ℕ) → unwrap_or (option_map is_end o) true ≡ true → is_in (takes_point back) o ≡ false
no_point back None on = refl
no_point points.Never (Some byte) on = refl
no_point points.ToWords (Some byte) on = let is = end_is byte on in grind arith
no_point points.ToLetters (Some byte) on = let is = end_is byte on in grind (arith, nat_tests)

both_off : (a b : Bool) → b ≡ false → (a && b) ≡ false
both_off a b off = grind arith

pub not_given : (back : PointsBack) (form : Form) (text : List ℕ) (size : ℕ) → ends_at text size ≡ true → gives_back back form text size ≡ false
not_given back form text size on = both_off (is_in (notation_of form.syntax).point (byte_before text size)) _ (no_point back (slice_get text size) on)

-- It is in no opening.
none_at : (bytes : List ℕ) (byte index : ℕ) → list_any (λ it. it == byte) bytes ≡ false → index < length bytes → (get_or bytes index 0 == byte) ≡ false
none_at [] byte index none below = absurd (omega (arith, below))
none_at (first ∷ bytes) byte ℕ.zero none below = grind arith
none_at (first ∷ bytes) byte (ℕ.suc index) none below = none_at bytes byte index (let rest : list_any (λ it. it == byte) bytes ≡ false = grind arith in rest) (omega (arith, below))

not_spelled : (own byte : ℕ) (either : Bool) → is_word_byte byte ≡ false → (own == byte) ≡ false → ((byte == own) || (either && (byte == other_case own))) ≡ false
not_spelled own byte either none other = grind (arith, nat_tests)

-- It is none of bytes of which none ends a number.
not_same : (own byte : ℕ) → is_end own ≡ false → is_end byte ≡ true → (own == byte) ≡ false
not_same own byte off on = untested own byte (λ same. false≢true (sym off ∙ ap is_end same ∙ on))

pub none_among : (bytes : List ℕ) (byte : ℕ) → list_any is_end bytes ≡ false → is_end byte ≡ true → list_any (λ it. it == byte) bytes ≡ false
none_among [] byte none on = refl
none_among (first ∷ bytes) byte none on =
    let parts = no_one (is_end first) (list_any is_end bytes) none in
    let own = not_same first byte parts.0 on in let rest = none_among bytes byte parts.1 on in grind arith

pub none_in : (some : Bool) (bytes : List ℕ) (byte : ℕ) → (some && list_any is_end bytes) ≡ false → is_end byte ≡ true
    → (some && list_any (λ it. it == byte) bytes) ≡ false
none_in false bytes byte none on = refl
none_in true bytes byte none on = none_among bytes byte none on

apart : (counts : Bool) (own byte : ℕ) → is_end own ≡ false → is_end byte ≡ true → cased counts own byte ≡ false
unfolding cased
apart counts own byte off on = both_off (not (own == 0)) _ (not_spelled own byte (not counts) (end_is byte on).0 (not_same own byte off on))

no_value : (byte : ℕ) → is_end byte ≡ true → byte_value byte ≡ 255
no_value byte on = value_is byte (grind (arith, nat_tests)) ∙ grind (arith, nat_tests)

below_radix : (v radix : ℕ) → v ≡ 255 → radix ≤ 36 → nat_lt v radix ≡ false
below_radix v radix value most = grind (arith, nat_tests)

no_sign : (byte : ℕ) → is_end byte ≡ true → (byte ≡ 48 → ⊥) × (signs byte ≡ false)
no_sign byte on = (grind (arith, nat_tests), grind (arith, nat_tests))

-- It plays no role in a grammar none of whose bytes ends a number.
pub plays_none : (a : Inside) (g : Grammar) → AreFields a → worded a ≡ g → IsSyntax g
    → list_any is_end (a.separator ∷ a.prefix ∷ a.suffix ∷ a.exponent ∷ []) ≡ false → is_end a.point ≡ false
    → (byte : ℕ) → is_end byte ≡ true → PlaysNoRole (notation_of g) byte
plays_none a g fields same syntax none no_point byte on =
    let p = no_one (is_end a.separator) _ none in let q = no_one (is_end a.prefix) _ p.1 in let r = no_one (is_end a.suffix) _ q.1 in
    let s = no_one (is_end a.exponent) _ r.1 in
    let no_digit = λ (part : Part). below_radix (byte_value byte) _ (no_value byte on) (radix_fits g part _ refl syntax).1 in
    silent_of g byte byte (no_sign byte on).0
    (spare_of g byte byte (no_digit parts.Integer) (no_digit parts.Exponent) (no_sign byte on).1
    (subst (λ own. cased true own byte ≡ false) (byte_is a g fields same layout.digit_separator) (apart true a.separator byte p.0 on))
    (sym (suffix_is a g fields same byte) ∙ apart _ a.suffix byte r.0 on)
    (sym (point_is a g fields same byte) ∙ ap (λ is. is && not (byte == 0)) (untested byte a.point (λ is. false≢true (sym no_point ∙ ap is_end (sym is) ∙ on))))
    (sym (exponent_is a g fields same byte) ∙ apart _ a.exponent byte s.0 on))
    (sym (prefix_is a g fields same byte) ∙ apart _ a.prefix byte q.0 on)

opened_none : (n : ℕ) (found : Bool) → 0 < n → (not (n == 0) && found) ≡ false → found ≡ false
opened_none n found some none = grind (arith, nat_tests)

-- Where such a byte is behind the first bytes, or nothing, no form goes on that lets the number end.
module _ (text : List ℕ) (size : ℕ) (on : ends_at text size ≡ true) where
  abbrev byte : ℕ
  byte = get_or text size 0

  is_byte : size < length text → is_end byte ≡ true
  is_byte inside = ap (λ o. unwrap_or (option_map is_end o) true) (sym (slice_get-get_or text size 0 inside)) ∙ on

  module _ (form : Form) (lets : LetsEnd form) where
    outside : size < length text → IsOutside form byte
    outside inside = lets byte (is_byte inside)

    no_word : HasNoWord text size form
    no_word = go (slice_get text size) refl on where
      go : (o : Option ℕ) → slice_get text size ≡ o → unwrap_or (option_map is_end o) true ≡ true
          → is_in (λ byte. list_any (λ it. it == byte) (more_of form.suffixes) || is_word_byte byte) o ≡ false
      go None at on = refl
      go (Some byte) at on =
          let word = (lets byte on).word in let other = (end_is byte on).0 in grind arith

    pub within : (m : ℕ) → size < m → m ≤ length text → BeginsBy (ReadsIn form) (take m text) → ⊥
    within more past inside front =
        let below : size < length text = omega (arith, past, inside) in
        let is = outside below in
        elim (cases_lt size form.opening.size) [
          | inl short ↦ (let at = subst (λ b. spells form.opening size b ≡ true) (front_byte text front.more more size past inside) (front.reads.0.each size short) in
              let opened = form.opening.within in
              let none : list_any (λ it. it == byte) form.opening.bytes ≡ false = opened_none form.opening.size _ (omega (arith, short)) is.opening in
              false≢true (sym (not_spelled (get_or form.opening.bytes size 0) byte (not form.opening.case_sensitive) (end_is byte (is_byte below)).0
              (none_at form.opening.bytes byte size none (omega (arith, short, opened)))) ∙ at))
          | inr low ↦ (let n = form.opening.size in
              let same : get_or (behind form text) (size - n) 0 ≡ byte = get_or-drop n text (size - n) 0
              ∙ ap (λ k. get_or text k 0) (let all : n + (size - n) ≡ size = omega (arith, low) in all) in
              let rest : length (behind form text) ≡ length text - n = length-drop n text in
              over (notation_of form.syntax) (behind form text) (size - n) (omega (arith, rest, low, below))
              (subst (PlaysNoRole (notation_of form.syntax)) (sym same) is.role) (more - n) (omega (arith, past, low)) (omega (arith, rest, inside))
              (front_behind text form more (omega (arith, low, past)) inside front))
        ]

    last : IsLast text size form
    last = (within, no_word)

  lasts : (forms : List Form) → AllByRecursion LetsEnd forms → All (IsLast text size) forms
  lasts forms all k d below = last (get_or forms k d) (All-from_recursion LetsEnd forms all k d below)

-- No suffix is behind the literal.
no_suffix : (form : Form) (float : Bool) (text : List ℕ) (size : ℕ) → HasNoWord text size form → size + suffix_size form.suffixes float (drop size text) ≡ size
no_suffix form float text size none =
    let suffix = suffix_within form.suffixes float (drop size text) in
    let word = word_within (more_of form.suffixes) text size size (omega arith) none in omega (arith, suffix, word)

-- An opening without bytes is there, and no more of it.
pub none_opened : (form : Form) (text : List ℕ) → form.opening.size ≡ 0 → IsOpenedTo form.opening text 0
none_opened form text bare = record {
  inside = omega arith;
  begins = record { within = omega arith; each = λ index below. absurd (omega (arith, below)) };
  differs = λ short. absurd (omega (arith, short, bare));
}

module _ (list : FormList) (text : List ℕ) (begun : Begun) (is : IsBegunFirst list text begun) (complete : IsTrue begun.complete)
    (on : ends_at text begun.at.size ≡ true) where
  abbrev form : Form
  form = is.may.form

  abbrev size : ℕ
  size = begun.at.size

  abbrev candidate : Candidate
  candidate = record { size = size; counts = begun.counts; sums = Some begun.sums; end = size }

  own_lasts : All (IsLast text size) list.forms
  own_lasts = lasts text size on list.forms is.may.lets.own

  own : IsLast text size form
  own = all_at (IsLast text size) list.forms 0 form is.may.at own_lasts

  opened : IsOpenedTo form.opening text 0
  opened = none_opened form text is.may.bare

  over_own : IsWithin (notation_of form.syntax) text size
  over_own more past inside front =
      let whole : behind form text ≡ text = ap (λ k. drop k text) is.may.bare in
      own.0 more past inside (record {
        more = front.more;
        literal = front.literal;
        reads = (
          no_opening form.opening _ is.may.bare,
          subst (λ k. Reads (notation_of form.syntax) front.literal (drop k (take more text ++ front.more))) (sym is.may.bare) front.reads,
        );
      })

  abbrev front_found : Found
  front_found = record { size = size; counts = begun.counts }

  all_of : 0 + size ≡ size
  all_of = omega arith

  is_front : IsFrontIn text front_found form
  is_front = subst (λ n. IsFrontIn text (record { size = n; counts = begun.counts }) form) all_of
      (read_front form text text 0 opened (let bare = is.may.bare in omega (arith, bare)) refl begun is.found complete over_own)

  made_with : (back : PointsBack) → IsMade back false text form candidate
  made_with back =
      let kept = kept back form text front_found is_front (not_given back form text size on) in
      let none = no_suffix form (has_float begun.counts) text size own.1 in
      let same : Some candidate ≡ Some (record { size = size; counts = begun.counts; sums = Some begun.sums; end = size + suffix_size form.suffixes (has_float begun.counts) (drop size text) }) =
      ap (λ end. Some (record { size = size; counts = begun.counts; sums = Some begun.sums; end = end })) (sym none) in
      with_suffix back false text form front_found is_front front_found kept (Some begun.sums)
      (subst (λ n. HasSumsOf form (take n text) begun.counts (Some begun.sums)) all_of
      (read_sums form text text 0 opened (let bare = is.may.bare in omega (arith, bare)) refl begun is.found complete over_own is.summed))
      (Some candidate) same (λ c some. subst (λ (c : Candidate). c.end ≤ length text) (some_is candidate c some) is.found.begun.begun.within) candidate refl

  pub ended_is : IsEndedAt list text candidate
  ended_is = record {
    form = form;
    at = is.may.at;
    end = refl;
    front = (is_front.front.literal, front_in form text front_found is_front);
    made = made_with;
    own = own_lasts;
    tokens = λ t some. lasts text size on t.now.forms.now (is.may.lets.needing t some);
  }

module _ (list : FormList) (text : List ℕ) (c : Candidate) (e : IsEndedAt list text c) where
  inside : 0 < length list.forms
  inside = slice_get_within list.forms 0 e.form e.at

  -- It is the first form.
  pub first_is : (d : Form) → e.form ≡ get_or list.forms 0 d
  first_is d = some_is _ _ (sym e.at ∙ slice_get-get_or list.forms 0 d inside)

  pub over_ended : (t : Tokens) → IsOver list t text c.end
  over_ended t k d below ahead = (e.own k d below).0 ahead.size (let further = ahead.further in let end = e.end in omega (arith, further, end))
      ahead.valid.within ahead.valid.front

  -- Its literal is the longest, of all forms and of those that need a suffix.
  pub picked_ended : (t : Bor Tokens) → list.tokens ≡ Some t → IsPicked list t.now text 0 e.form c
  picked_ended t is = let made = e.made t.now.gives_points_back in record {
    chosen = record {
      needs = false;
      at = first_at list.forms (map (λ form. (form, true)) t.now.forms.now) 0 e.form inside ∙ ap (λ (form : Form). Some (form, false)) (sym (first_is e.form));
      own = made.candidate;
      before = λ k d below. absurd (omega (arith, below));
      others = λ k d below s end has.
          let it = get_or (tried list t.now) k d in
          let last = all_tried (IsLast text c.size) list t.now e.own (e.tokens t is) k d below in
          let size = size_within list t.now text it c.size s end last.0 has in let same = e.end in
          no_longer s end c.size c.end size (end_within list t.now text it s end c.end (subst (λ n. HasNoWord text n it.0) (sym same) last.1) (omega (arith, size, same)) has);
    };
    ready = made.ready;
  }

  pub greatest_ended : IsGreatest (HasFront text) list.forms 0 c.size
  greatest_ended = record {
    here = subst (λ o. IsSomeAnd o (λ form. HasFront text form c.size)) (sym e.at) e.front;
    before = λ k d below. absurd (omega (arith, below));
    others = λ k d below other has. elim (cases_lt c.size other) [
      | inl more ↦ absurd ((e.own k d below).0 other more has.1.within (begins_whole (ReadsIn (get_or list.forms k d)) (take other text) has.0 has.1.reads))
      | inr low ↦ low
    ];
  }

-- Without a suffix, a number has the kind of its form.
pub kind_ended : (suffixes : Option (Bor Suffixes)) (word : List ℕ) (kind : Kind) → word ≡ [] → kind_with suffixes word kind ≡ kind
kind_ended None word kind none = refl
kind_ended (Some it) word kind none = ap (λ w. kind_with (Some it) w kind) none

-- The first form of a list that is known by its fields, its candidate, and what has been read of it.
module _ (self list : FormList) (text : List ℕ) (view : list ≡ self) (d : Form) where
  abbrev g : Form
  g = get_or list.forms 0 d

  pub made_first : (c : Candidate) → IsEndedAt self text c → IsMade points.Never false text g c
  made_first c e = let own = subst (λ (l : FormList). IsEndedAt l text c) (sym view) e in
      subst (λ (g : Form). IsMade points.Never false text g c) (first_is list text c own d) (own.made points.Never)

  pub begun_first : (begun : Begun) → IsBegunFirst self text begun
      → (g.opening.size ≡ 0) × HasBegun (notation_of g.syntax) text begun × IsSummed (raw g.syntax.word) text begun
  begun_first begun e =
      let own = subst (λ (l : FormList). IsBegunFirst l text begun) (sym view) e in
      let same = some_is _ _ (sym own.may.at ∙ slice_get-get_or list.forms 0 d (slice_get_within list.forms 0 own.may.form own.may.at)) in (
        subst (λ (g : Form). g.opening.size ≡ 0) same own.may.bare,
        subst (λ (g : Form). HasBegun (notation_of g.syntax) text begun) same own.found,
        subst (λ (g : Form). IsSummed (raw g.syntax.word) text begun) same own.summed,
      )
