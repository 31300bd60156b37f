-- Tokens that are found by reading the forms of a list once.
use Rattle.lexical_forms.proofs.Common.{All, AreSums, Bool, Bor, Cuts, Form, HasLengths, HasSums, IsTrue, IsWithin, List, Literal, NoFront, NoFrontPast, None}
use Rattle.lexical_forms.proofs.Common.{Notation, Option, PlaysNoRole, Reads, Record, Some, [], ap, append-nil, arith, before_exponent, begins, cond, cut}
use Rattle.lexical_forms.proofs.Common.{drop, drop-take, false, filter, fold, get_or, go_on_with, has, has_prefix, have_openings, if◌then◌else◌, is_in}
use Rattle.lexical_forms.proofs.Common.{is_in_word, is_shorter, is_word_byte, length, length-append, length-take-le, map, max, more_of, nat_le, nat_tests}
use Rattle.lexical_forms.proofs.Common.{refl, sign_size, slice_get, slice_get-get_or, slice_get_within, subst, suffix_size, suffix_words, sym, take}
use Rattle.lexical_forms.proofs.Common.{take-take, text_of, true, word_size, ℕ, ◌&&◌, ◌++◌, ◌+◌, ◌-◌, ◌<◌, ◌∙◌, ◌∷◌, ◌≡◌, ◌≤◌}
use Rattle.lexical_forms.proofs.ExcludeLemmas.{BeginsPrefixed, front_sign, no_role_excludes, prefix_begins}
use Rattle.lexical_forms.proofs.FormLemmas.{no_one, plain_at}
use Rattle.lexical_forms.proofs.OpeningLemmas.{begins_whole, front_byte}
use Rattle.lexical_forms.proofs.TokenLemmas.{some_is}
use Rattle.lexical_forms.specs.declared.suffix.Suffixes.{Suffixes}
use Rattle.lexical_literal.specs.declared.literal.Sums.{Sums}
use Rattle.lexical_literal.specs.declared.step.Piece.TheVariants as pieces
use Rattle.lexical_literal.specs.declared.syntax.Condition.TheVariants as conditions

-- A suffix is in the word with which the text begins.
longest_within : (fits : Bor (List ℕ) → Bool) (most : ℕ) → ((word : Bor (List ℕ)) → fits word ≡ true → length word.now ≤ most)
    → (words : List (Bor (List ℕ))) (longest : ℕ) → longest ≤ most
    → fold max longest (map (λ (word : Bor (List ℕ)). length word.now) (filter fits words)) ≤ most
longest_within fits most within [] longest low = low
longest_within fits most within (word ∷ words) longest low = go (longest_within fits most within words) (fits word) refl where
  go : ((k : ℕ) → k ≤ most → fold max k (map (λ (word : Bor (List ℕ)). length word.now) (filter fits words)) ≤ most) → (b : Bool) → fits word ≡ b
      → fold max longest (map (λ (word : Bor (List ℕ)). length word.now) (cond b (word ∷ filter fits words) (filter fits words))) ≤ most
  go rest true fit = rest (max longest (length word.now)) (let own = within word fit in omega (arith, own, low))
  go rest false fit = rest longest low

pub suffix_within : (suffixes : Option (Bor Suffixes)) (float : Bool) (text : List ℕ) → suffix_size suffixes float text ≤ word_size (more_of suffixes) text
suffix_within None float text = omega arith
suffix_within (Some it) float text =
    let whole = word_size it.now.more.now text in
    let least = if it.now.whole_words then whole else 0 in
    let longest = longest_within (λ word. nat_le least (length word.now) && nat_le (length word.now) whole && begins it.now.either_case word.now text) whole
    (λ word fit. grind (arith, nat_tests)) (suffix_words (Some it) float) 0 (omega arith) in grind arith

module _ (more : List ℕ) where
  -- A word ends where no byte of a word follows.
  pub word_within : (text : List ℕ) (index end : ℕ) → index ≤ end → is_in (is_in_word more) (slice_get text end) ≡ false
      → index + word_size more (drop index text) ≤ end
  word_within [] ℕ.zero end order none = omega arith
  word_within [] (ℕ.suc index) end order none = omega (arith, order)
  word_within (byte ∷ text) ℕ.zero ℕ.zero order none = grind arith
  word_within (byte ∷ text) ℕ.zero (ℕ.suc end) order none = let rest = word_within text 0 end (omega arith) none in grind arith
  word_within (byte ∷ text) (ℕ.suc index) ℕ.zero order none = omega (arith, order)
  word_within (byte ∷ text) (ℕ.suc index) (ℕ.suc end) order none = let rest = word_within text index end (omega (arith, order)) none in omega (arith, rest)

-- No word of a form goes on where a byte is none of any word, and none that a form has besides.
pub no_word_of_form : (forms : List Form) (byte : Option ℕ) → is_in is_word_byte byte ≡ false
    → is_in (go_on_with forms) byte ≡ false
    → All (λ form. is_in (is_in_word (more_of form.suffixes)) byte ≡ false) forms
no_word_of_form forms None word none i d inside = refl
no_word_of_form [] (Some byte) word none i d inside = absurd (omega (arith, inside))
no_word_of_form (form ∷ forms) (Some byte) word none ℕ.zero d inside = grind arith
no_word_of_form (form ∷ forms) (Some byte) word none (ℕ.suc i) d inside =
    no_word_of_form forms (Some byte) word (no_one _ _ none).1 i d (omega (arith, inside))

module _ (m : Notation) (text : List ℕ) where
  -- No literal goes on behind a byte that plays no role.
  pub over : (size : ℕ) → size < length text → PlaysNoRole m (get_or text size 0) → IsWithin m text size
  over size inside none more below within front =
      let long : size < length (take more text ++ front.more) =
      omega (arith, below, length-append (take more text) front.more, length-take-le more text within) in
      no_role_excludes m (take more text ++ front.more) size long
      (subst (PlaysNoRole m) (sym (front_byte text front.more more size below within)) none) front.literal front.reads

  pub over_byte : (size byte : ℕ) → slice_get text size ≡ Some byte → PlaysNoRole m byte → IsWithin m text size
  over_byte size byte at none =
      let inside = slice_get_within text size byte at in
      over size inside (subst (PlaysNoRole m) (some_is _ _ (sym at ∙ slice_get-get_or text size 0 inside)) none)

  -- A literal with a required prefix begins with it.
  module _ (required : IsTrue (m.condition conditions.BasePrefix)) (lacks : has_prefix m text (sign_size text) ≡ false) where
    not_begun : (more : ℕ) (rest : List ℕ) → sign_size text + 1 < more → more ≤ length text → BeginsPrefixed m (take more text ++ rest) → ⊥
    not_begun more rest below within is =
        let sign = front_sign text rest more within (omega (arith, below)) in
        let zero : get_or text (sign_size text) 0 ≡ 48 =
        sym (front_byte text rest more (sign_size text) (omega (arith, below)) within) ∙ ap (λ n. get_or (take more text ++ rest) n 0) (sym sign) ∙ is.zero in
        let prefix : m.prefix (get_or text (sign_size text + 1) 0) ≡ true =
        ap m.prefix (sym (front_byte text rest more (sign_size text + 1) below within) ∙ ap (λ n. get_or (take more text ++ rest) (n + 1) 0) (sym sign))
        ∙ is.prefix in
        grind (arith, nat_tests)

    pub lacking_within : IsWithin m text (sign_size text + 1)
    lacking_within more below within front =
        not_begun more front.more below within (prefix_begins m front.literal (take more text ++ front.more) front.reads required)

    pub lacking_none : NoFront m text
    lacking_none n within l reads =
        let begins = prefix_begins m l (take n text) reads required in
        let inside = begins.inside in let size = length-take-le n text within in
        let sign : sign_size (take n text) ≡ sign_size text =
        ap sign_size (sym (append-nil (take n text))) ∙ front_sign text [] n within (omega (arith, inside, size)) in
        lacking_within n (omega (arith, inside, size, sign)) within (begins_whole (Reads m) (take n text) l reads)

-- A form of which no literal goes on behind `size` bytes has no longer front.
pub no_front_past : (m : Notation) (text : List ℕ) (size : ℕ) → IsWithin m text size → NoFrontPast m text size
no_front_past m text size is more past inside l reads = is more past inside (begins_whole (Reads m) (take more text) l reads)

pub less_or_same : (b : Bool) (n : ℕ) → (if b then n - 1 else n) ≤ n
less_or_same b n = grind arith

pub no_longer : (s e a b : ℕ) → s ≤ a → e ≤ b → is_shorter a b s e ≡ false
no_longer s e a b less end = grind (arith, nat_tests)

-- No literal goes on behind more bytes.
pub within_more : (m : Notation) (text : List ℕ) (a b : ℕ) → a ≤ b → IsWithin m text a → IsWithin m text b
within_more m text a b less is more below = is more (omega (arith, less, below))

-- Without an opening, a form reads what its syntax reads.
abbrev pub IsBare : Form → Type 0
IsBare form = form.opening.size ≡ 0

pub are_bare : (forms : List Form) → have_openings forms ≡ false → All IsBare forms
are_bare forms none k d below = plain_at forms k d below none

-- The sums of the digits of a front are those of its parts in the text.
piece_same : (text : List ℕ) (size a k : ℕ) → a + k ≤ size → take k (drop a (take size text)) ≡ take k (drop a text)
piece_same text size a k less =
    let split : size ≡ a + (size - a) = omega (arith, less) in
    ap (λ n. take k (drop a (take n text))) split ∙ ap (take k) (drop-take a (size - a) text) ∙ take-take k (size - a) (drop a text) (omega (arith, less))

total : (l : Literal) (c : Cuts) → HasLengths l c → before_exponent c + c pieces.Exponent ≤ length (text_of l)
total l c has = simp length-append (omega arith)

pub sums_of_front : (r : Record) (text : List ℕ) (size : ℕ) (c : Cuts) (sums : Sums) → (m : Notation) (l : Literal) → size ≤ length text
    → Reads m l (take size text) → HasLengths l c → AreSums r (cut text c) sums → AreSums r (cut (take size text) c) sums
sums_of_front r text size c sums m l within reads has is =
    let short : length (text_of l) ≡ size = ap length (sym reads.whole) ∙ length-take-le size text within in
    let all = total l c has in
    let i : (cut text c).integer ≡ (cut (take size text) c).integer = sym (piece_same text size _ _ (omega (arith, all, short))) in
    let f : (cut text c).fraction ≡ (cut (take size text) c).fraction = sym (piece_same text size _ _ (omega (arith, all, short))) in
    let e : (cut text c).exponent ≡ (cut (take size text) c).exponent = sym (piece_same text size _ _ (omega (arith, all, short))) in
    subst (λ x. HasSums r (cut (take size text) c).integer (cut (take size text) c).fraction x sums) e
    (subst (λ x. HasSums r (cut (take size text) c).integer x (cut text c).exponent sums) f
    (subst (λ x. HasSums r x (cut text c).fraction (cut text c).exponent sums) i is))
