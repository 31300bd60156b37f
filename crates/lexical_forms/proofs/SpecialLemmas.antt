-- How a text is compared with a spelling.
use Rattle.lexical_forms.proofs.Common.{Bool, Grammar, List, Notation, Sign, Some, [], arith, cases_lt, drop, drop_all, drop_more, false, get_or, if◌then◌else◌}
use Rattle.lexical_forms.proofs.Common.{inl, inr, is_absent, is_spelled, length, letter_of, nat_lt, nat_tests, notation_of, raw, refl, signed, special_behind}
use Rattle.lexical_forms.proofs.Common.{special_of, special_separator, true, ℕ, ◌&&◌, ◌+◌, ◌-◌, ◌==◌, ◌||◌, ◌∷◌, ◌≡◌, ◌≤◌, ◌⊎◌}
use Rattle.lexical_forms.specs.declared.specials.Specials.{Specials}
use Rattle.lexical_util.specs.Roles.{cased}
use Rattle.lexical_util.specs.Layout as layout
use Rattle.lexical_forms.specs.declared.specials.Sign.TheVariants as signs

-- No other byte is a separator.
pub one_separator : (g : Grammar) (c : ℕ) → special_separator (notation_of g) c ≡ true → c ≡ (raw g.word).byte layout.digit_separator
unfolding cased
one_separator g c is = grind (arith, nat_tests)

module _ (m : Notation) (x : ℕ) where
  -- `is_next word c more` is true if `c` is the first letter of `word`, and `more` is true of the rest of `word`.
  abbrev is_next : List ℕ → ℕ → (List ℕ → Bool) → Bool
  is_next [] c more = false
  is_next (letter ∷ word) c more = (letter_of m letter == letter_of m c) && more word

  -- `reads text taken word` is true if `text` is spelled as `word` behind at most `taken` letters `x`.
  abbrev pub reads : List ℕ → ℕ → List ℕ → Bool
  reads [] taken word = is_absent word
  reads (c ∷ text) taken word = (special_separator m c && reads text taken word)
      || ((letter_of m x == letter_of m c) && (nat_lt 0 taken && reads text (taken - 1) word))
      || is_next word c (reads text 0)

  pub none_taken : (text word : List ℕ) → is_spelled m word text ≡ reads text 0 word
  none_taken [] word = refl
  none_taken (c ∷ text) [] = let same = none_taken text [] in grind (arith, nat_tests)
  none_taken (c ∷ text) (letter ∷ word) = let same = none_taken text (letter ∷ word) in let next = none_taken text word in grind (arith, nat_tests)

  fewer : (text word : List ℕ) (k : ℕ) → reads text k word ≡ true → reads text (k + 1) word ≡ true
  fewer [] word k is = is
  fewer (c ∷ text) word k is = let more = fewer text word k in let less = fewer text word (k - 1) in grind (arith, nat_tests)

  -- A letter `x` of the word is one of those before the word.
  shift : (text word : List ℕ) (k letter : ℕ) → letter_of m letter ≡ letter_of m x
      → reads text k word ≡ (reads text 0 word || (nat_lt 0 k && reads text (k - 1) (letter ∷ word)))
  shift [] word k letter same = grind arith
  shift (c ∷ text) word k letter same =
      let all = shift text word k letter same in let less = shift text word (k - 1) letter same in grind (arith, nat_tests)

  -- `HasRead word text taken n rest` holds if `text` is spelled as `word` if and only if `rest` is spelled as `word` without its
  -- first `n` letters, behind at most `taken` letters `x`.
  pub record HasRead (word text : List ℕ) (taken n : ℕ) (rest : List ℕ) : Type 0 where
    pub few : taken ≤ n
    pub within : n ≤ length word
    pub same : is_spelled m word text ≡ reads rest taken (drop n word)

  -- `fits word n c` is true if `c` is the letter `n` of `word`.
  abbrev pub fits : List ℕ → (n c : ℕ) → Bool
  fits word n c = nat_lt n (length word) && (letter_of m (get_or word n 0) == letter_of m c)

  next_at : (word : List ℕ) (n c : ℕ) (more : List ℕ → Bool) → is_next (drop n word) c more ≡ (fits word n c && more (drop (n + 1) word))
  next_at word n c more = grind (arith, drop_more, drop_all)

  -- `Moves word taken n c next_taken next` holds if the byte `c` may follow, and makes `next_taken` of `taken` and `next` of `n`.
  abbrev pub Moves : List ℕ → (taken n c next_taken next : ℕ) → Type 0
  Moves word taken n c next_taken next =
      ((fits word n c ≡ true) × (next ≡ n + 1)
      × (next_taken ≡ (if special_separator m c then taken + 1 else (if letter_of m x == letter_of m c then taken else 0))))
      ⊎ ((fits word n c ≡ false) × (next ≡ n) × (((special_separator m c ≡ true) × (next_taken ≡ taken))
      ⊎ ((special_separator m c ≡ false) × (letter_of m x ≡ letter_of m c) × (taken ≡ next_taken + 1))))

  module _ (word text : List ℕ) (taken n c : ℕ) (rest : List ℕ) (now : HasRead word text taken n (c ∷ rest)) where
    shift_at : (k : ℕ) → fits word n c ≡ true → letter_of m x ≡ letter_of m c
        → reads rest k (drop (n + 1) word) ≡ (reads rest 0 (drop (n + 1) word) || (nat_lt 0 k && reads rest (k - 1) (drop n word)))
    shift_at k fit same = grind (arith, shift, nat_tests, drop_more)

    pub read_more : (only : special_separator m c ≡ true → letter_of m c ≡ letter_of m x) (next_taken next : ℕ) → Moves word taken n c next_taken next
        → HasRead word text next_taken next rest
    read_more only next_taken next (inl is) = record {
      few = let few = now.few in grind arith;
      within = let within = now.within in grind arith;
      same =
          let same = now.same in let first = next_at word n c (reads rest 0) in
          let less = fewer rest (drop n word) (taken - 1) in let more = shift_at next_taken in
          let back : special_separator m c ≡ true → next_taken - 1 ≡ taken = grind arith in
          grind (arith, nat_tests);
    }
    read_more only next_taken next (inr is) = grind (arith, next_at, fewer)

    pub fails : fits word n c ≡ false → special_separator m c ≡ false → (nat_lt 0 taken && (letter_of m x == letter_of m c)) ≡ false
        → false ≡ is_spelled m word text
    fails none kept lone = let same = now.same in let first = next_at word n c (reads rest 0) in grind (arith, nat_tests)

  pub at_end : (word text : List ℕ) (taken n : ℕ) → HasRead word text taken n [] → (n == length word) ≡ is_spelled m word text
  at_end word text taken n now = elim (cases_lt n (length word)) [
    | inl inside ↦ let last = drop_more word n 0 inside in let same = now.same in grind (arith, nat_tests)
    | inr past ↦ let last = drop_all n word past in let same = now.same in let within = now.within in grind (arith, nat_tests)
  ]

-- A sign before a word is the sign of the text.
pub of_signed : (m : Notation) (specials : Specials) (sign : Sign) (word : List ℕ) → special_of m specials (signed (Some sign) word)
    ≡ special_behind m specials (Some sign) word
of_signed m specials signs.Plus word = refl
of_signed m specials signs.Minus word = refl
