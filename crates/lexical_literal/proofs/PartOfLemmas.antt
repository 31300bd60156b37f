-- The part that a front ends in.
use Rattle.lexical_literal.proofs.Common.{HasRoles, List, None, Notation, Part, Role, Some, Summary, [], after, arith, false, false≢true, if◌then◌else◌}
use Rattle.lexical_literal.proofs.Common.{list_any, part_of, refl, role_at, sym, takes, true, walk, ℕ, ◌==◌, ◌∙◌, ◌∷◌, ◌≡◌}
use Rattle.lexical_util.specs.declared.feature_format.roles.Role.TheVariants as roles
use Rattle.lexical_util.specs.declared.format_flags.Part.TheVariants as parts
use Rattle.lexical_literal.proofs.WalkLemmas.{walk_none, as_role, took}

-- After `None`, nothing is read.
pub none_after : (m : Notation) (text : List ℕ) (last : Summary) → walk m None text ≡ Some last → ⊥
none_after m text last is = let none = walk_none m.condition m text in cc

module _ (m : Notation) (h : HasRoles m) where
  -- `part_after part text` is the part that `text` ends in, behind a front that ends in `part`.
  abbrev part_after : Part → List ℕ → Part
  part_after parts.Exponent text = parts.Exponent
  part_after part text = if list_any m.exponent_character text then parts.Exponent else (if list_any m.point text then parts.Fraction else part)

  over : (t : Summary) (text : List ℕ) (last : Summary) → t.ended ≡ true → walk m (Some t) text ≡ Some last → last.ended ≡ true
  over t [] last ended is = cc
  over t (b ∷ text) last ended is = grind (arith, none_after)

  moves : (t : Summary) (b : ℕ) (text : List ℕ) (last : Summary) (r : Role) → role_at m (part_of t.stage) b ≡ Some r → takes m t (b == 43) r ≡ true
      → last.ended ≡ false → walk m (Some (after t (b == 48) r)) text ≡ Some last
      → part_after (part_of (after t (b == 48) r).stage) text ≡ part_after (part_of t.stage) (b ∷ text)
  moves t b text last roles.Suffix plays taken going rest = absurd (false≢true (sym going ∙ over (after t (b == 48) roles.Suffix) text last refl rest))
  moves t b text last r plays taken going rest =
      let is = as_role m (part_of t.stage) b r plays in let scale = h.one r roles.Exponent b is in let dot = h.one r roles.Point b is in grind arith

  -- What has been read is in the last part.
  pub ends_in : (t : Summary) (text : List ℕ) (last : Summary) → walk m (Some t) text ≡ Some last → last.ended ≡ false
      → (part_of last.stage) ≡ part_after (part_of t.stage) text
  ends_in t [] last is going = let same : (part_of t.stage) ≡ (part_of last.stage) = cc in grind arith
  ends_in t (b ∷ text) last is going =
      let k = took m.condition m t b (λ o. walk m o text ≡ Some last) (none_after m text last) is in
      ends_in (after t (b == 48) k.role) text last k.rest going ∙ moves t b text last k.role k.plays k.taken going k.rest
