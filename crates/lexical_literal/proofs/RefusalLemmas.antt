-- What has been read decides what a notation allows, with other flags too.
use Rattle.lexical_literal.proofs.Common.{Bool, Condition, Flag, HasRoles, IsFront, IsReady, IsSpelled, IsTrue, IsWeaker, List, Literal, None, Notation, Option}
use Rattle.lexical_literal.proofs.Common.{Part, Some, Summary, [], after, and_from, and_parts, ap, are_fit, arith, is_fit, is_one_of, refl, requirement_flags}
use Rattle.lexical_literal.proofs.Common.{separators_in, start, subst, sym, true, walk, with_rules, ℕ, ◌&&◌, ◌++◌, ◌==◌, ◌||◌, ◌∙◌, ◌∷◌, ◌≡◌}
use Rattle.lexical_literal.proofs.WalkLemmas.{took}
use Rattle.lexical_literal.proofs.FrontLemmas.{front_from, front_is_read}
use Rattle.lexical_literal.proofs.PartOfLemmas.{none_after}

-- FLAGS

-- FEWER REQUIREMENTS

module _ (m : Notation) (A : Flag → Bool) (D : Condition → Bool) where
  abbrev n : Notation
  n = with_rules m A D

  pub other_roles : HasRoles m → HasRoles n
  other_roles h = grind arith

  -- `KeepsPlaces part` holds if separators may be where they may be in `m`.
  pub record KeepsPlaces (part : Part) : Type 0 where
    pub leading : IsTrue (m.flag (separators_in part).leading) → IsTrue (A (separators_in part).leading)
    pub internal : IsTrue (m.flag (separators_in part).internal) → IsTrue (A (separators_in part).internal)
    pub trailing : IsTrue (m.flag (separators_in part).trailing) → IsTrue (A (separators_in part).trailing)
    pub consecutive : IsTrue (m.flag (separators_in part).consecutive) → IsTrue (A (separators_in part).consecutive)

  module _ (part : Part) (kept : KeepsPlaces part) where
    pub all_fit : (before after : List ℕ) → are_fit m part before after ≡ true → are_fit n part before after ≡ true
    all_fit before [] is = refl
    all_fit before (b ∷ after) is =
        let both = and_parts (is_fit m part before b after) _ is in
        and_from _ _ (grind (arith, both.0)) (all_fit (before ++ b ∷ []) after both.1)

  -- Flags that require no more, and are no less otherwise.
  module _ (no_more : (f : Flag) → IsTrue (A f && is_one_of requirement_flags f) → IsTrue (m.flag f))
      (no_less : (f : Flag) → IsTrue (m.flag f) → IsTrue (A f || is_one_of requirement_flags f)) where
    kept : (part : Part) → KeepsPlaces part
    kept x0 = grind arith

    pub spelled_too : (l : Literal) → IsSpelled m l → IsSpelled n l
    spelled_too l is = grind (arith, all_fit, kept)

  module _ (weaker : IsWeaker m A D) where
    pub other_ready : IsReady m → IsReady n
    other_ready ready = grind arith

    front_too : (text : List ℕ) → IsFront m text → IsFront n text
    front_too text is = grind (arith, spelled_too)

  -- THE SAME SUMMARY

  same_last : HasRoles m → (t : Summary) (text : List ℕ) (s r : Summary) → walk m (Some t) text ≡ Some s → walk n (Some t) text ≡ Some r → s ≡ r
  same_last h t [] s r is_s is_r = cc
  same_last h t (b ∷ text) s r is_s is_r =
      let one = took m.condition m t b (λ o. walk m o text ≡ Some s) (none_after m text s) is_s in
      let two = took D n t b (λ o. walk n o text ≡ Some r) (none_after n text r) is_r in
      let same : two.role ≡ one.role = let first = one.plays in let second = two.plays in cc in
      same_last h (after t (b == 48) one.role) text s r one.rest (subst (λ x. walk n (Some (after t (b == 48) x)) text ≡ Some r) same two.rest)

  some_of : (o : Option Summary) → (o ≡ None → ⊥) → (u : Summary) × (o ≡ Some u)
  some_of x0 some = grind arith

  module _ (ready : IsReady m) (weaker : IsWeaker m A D) (front : List ℕ) (s : Summary) (read : walk m (Some start) front ≡ Some s) where
    pub read_too : walk n (Some start) front ≡ Some s
    read_too =
        let front_is = front_too weaker front (front_from m ready front s read) in
        let some = some_of (walk n (Some start) front) (front_is_read n (other_ready weaker ready) front front_is) in
        some.1 ∙ ap Some (sym (same_last ready.roles start front s some.0 read some.1))
