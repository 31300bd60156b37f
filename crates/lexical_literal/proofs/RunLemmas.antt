-- Digit runs, byte by byte.
use Rattle.lexical_literal.proofs.Common.{Bool, ByteSet, List, Notation, Part, [], are_fit, arith, ends_with, false, gap_fits, if◌then◌else◌, is_open, is_place}
use Rattle.lexical_literal.proofs.Common.{is_present, list_any, list_any-append, not, or_right, refl, separators_in, true, ℕ, ◌&&◌, ◌++◌, ◌||◌, ◌∷◌, ◌≡◌}

-- `is_rest m part h g run` is true if `run` can follow in `part`, after a digit if `h` is true, and in a gap if `g` is true. A
-- separator is tested when the next digit or the end comes.
abbrev pub is_rest : Notation → Part → Bool → Bool → List ℕ → Bool
is_rest m part h g [] = gap_fits m part h g false
is_rest m part h g (b ∷ run) = if m.digit part b then gap_fits m part h g true && is_rest m part true false run
    else (m.separator b && (not g || m.flag (separators_in part).consecutive) && is_rest m part h true run)

ends_with_push : (A : ByteSet) (bytes : List ℕ) (byte : ℕ) → ends_with A (bytes ++ byte ∷ []) ≡ A byte
ends_with_push A [] byte = refl
ends_with_push A (x ∷ []) byte = refl
ends_with_push A (x ∷ y ∷ bytes) byte = ends_with_push A (y ∷ bytes) byte

module _ (m : Notation) (part : Part) where
  abbrev D : ByteSet
  D = m.digit part

  -- `gap before` is true if the last byte of `before` is no digit.
  abbrev gap : List ℕ → Bool
  gap before = ends_with (λ other. not (D other)) before

  rest_is : (before after : List ℕ) → is_rest m part (list_any D before) (gap before) after
      ≡ (gap_fits m part (list_any D before) (gap before) (list_any D after) && are_fit m part before after)
  rest_is before [] = grind arith
  rest_is before (b ∷ after) =
      let rest = before ++ b ∷ [] in
      let whole = list_any-append D before (b ∷ []) in
      let seen : list_any D rest ≡ (list_any D before || D b) = grind arith in
      let ended : gap rest ≡ not (D b) = ends_with_push (λ other. not (D other)) before b in
      let more = rw (seen, ended) at (rest_is rest after) in
      grind arith

  -- At the start of a part, what can follow is a digit run.
  pub rest_of_none : (run : List ℕ) → is_rest m part false false run ≡ are_fit m part [] run
  rest_of_none run = rest_is [] run

-- After a separator, a digit follows or the run may end.
gap_closes : (m : Notation) (part : Part) (h : Bool) (u : List ℕ) → is_rest m part h true u ≡ true → is_open m part h (list_any (m.digit part) u) ≡ true
gap_closes m part h [] is = or_right (is_place m part h true && false) _ is
gap_closes m part h (b ∷ u) is = let rest = gap_closes m part h u in grind arith

-- A gap that is closed later may be opened.
pub opens : (m : Notation) (part : Part) (h next : Bool) (u : List ℕ) → is_rest m part h true u ≡ true
    → (list_any (m.digit part) u ≡ true → next ≡ true) → is_open m part h next ≡ true
opens m part h next u is more = let closes = gap_closes m part h u is in grind arith

-- A digit run that is present has a digit.
pub digits_present : (m : Notation) (part : Part) (run : List ℕ) → is_rest m part false false run ≡ true → list_any (m.digit part) run ≡ is_present run
digits_present m part [] fit = refl
digits_present m part (b ∷ u) fit = let rest = gap_closes m part false u in grind arith
