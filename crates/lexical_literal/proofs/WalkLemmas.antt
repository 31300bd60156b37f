-- How a text is read, byte by byte.
use Rattle.lexical_literal.proofs.Common.{Bool, Condition, Cuts, HasRoles, List, None, Notation, Option, Part, Piece, Role, Some, Stage, Summary, []}
use Rattle.lexical_literal.proofs.Common.{accepted_by, add, admits, after, ap, arith, count, false, false_from_ne_true, false≢true, if◌then◌else◌, length}
use Rattle.lexical_literal.proofs.Common.{move_by, nat_tests, no_condition, not, part_of, piece_number, refl, role_at, set_of_role, step_by, sym, takes}
use Rattle.lexical_literal.proofs.Common.{takes_in, tally_by, true, walk_by, ℕ, ◌&&◌, ◌++◌, ◌+◌, ◌==◌, ◌∙◌, ◌∷◌, ◌≡◌}
use Rattle.lexical_util.specs.declared.feature_format.roles.Role.TheVariants as roles

-- `Accepts C m o text` holds if `text` is accepted with the conditions `C`.
abbrev pub Accepts : (Condition → Bool) → Notation → Option Summary → List ℕ → Type 0
Accepts C m o text = accepted_by C m (walk_by C m o text) ≡ true

-- `Arrives C m o c text d` holds if `text` is accepted, and has the parts with the lengths `d`, begun with `c`.
abbrev pub Arrives : (Condition → Bool) → Notation → Option Summary → Cuts → List ℕ → Cuts → Type 0
Arrives C m o c text d = Accepts C m o text × (tally_by C m o c text ≡ d)

-- `add_all c piece bytes` counts `bytes`, which belong to `piece`.
abbrev pub add_all : Cuts → Piece → List ℕ → Cuts
add_all c piece [] = c
add_all c piece (b ∷ bytes) = add_all (add c piece) piece bytes

pub added : (c : Cuts) (piece other : Piece) (bytes : List ℕ)
    → add_all c piece bytes other ≡ (if piece_number other == piece_number piece then c other + length bytes else c other)
added c piece other [] = grind (arith, nat_tests)
added c piece other (b ∷ bytes) = let rest = added (add c piece) piece other bytes in grind (arith, nat_tests)

module _ (C : Condition → Bool) (m : Notation) where
  pub walk_none : (text : List ℕ) → walk_by C m None text ≡ None
  walk_none [] = refl
  walk_none (b ∷ text) = refl

  pub walk_append : (o : Option Summary) (x y : List ℕ) → walk_by C m o (x ++ y) ≡ walk_by C m (walk_by C m o x) y
  walk_append o [] y = refl
  walk_append None (b ∷ x) y = sym (walk_none y)
  walk_append (Some s) (b ∷ x) y = walk_append (step_by C m s b) x y

  pub tally_append : (o : Option Summary) (c : Cuts) (x y : List ℕ) → tally_by C m o c (x ++ y) ≡ tally_by C m (walk_by C m o x) (tally_by C m o c x) y
  tally_append o c [] y = refl
  tally_append None c (b ∷ x) [] = refl
  tally_append None c (b ∷ x) (a ∷ y) = refl
  tally_append (Some s) c (b ∷ x) y = tally_append (step_by C m s b) (count (part_of s.stage) (role_at m (part_of s.stage) b) c) x y

  pub none_accepts : (text : List ℕ) → Accepts C m None text → ⊥
  none_accepts text is = false≢true (sym (ap (accepted_by C m) (walk_none text)) ∙ is)

-- `Took C m s b P` holds if `b` is taken after `s` with the conditions `C`, and `P` holds of what it makes of `s`.
pub record Took (C : Condition → Bool) (m : Notation) (s : Summary) (b : ℕ) (P : Option Summary → Type 0) : Type 0 where
  pub role : Role
  pub plays : role_at m (part_of s.stage) b ≡ Some role
  pub going : s.ended ≡ false
  pub taken : takes m s (b == 43) role ≡ true
  pub admitted : admits C s b role ≡ true
  pub rest : P (Some (after s (b == 48) role))

-- What a role says of a byte.
module _ (m : Notation) (part : Part) (b : ℕ) where
  pub digit_role : m.digit part b ≡ true → role_at m part b ≡ Some roles.Digit
  digit_role is = grind arith

  pub as_digit : role_at m part b ≡ Some roles.Digit → m.digit part b ≡ true
  as_digit role = grind arith

  pub no_digit : role_at m part b ≡ Some roles.Separator → m.digit part b ≡ false
  no_digit role = false_from_ne_true _ (λ is. let same = sym role ∙ digit_role is in cc)

  pub as_role : (r : Role) → role_at m part b ≡ Some r → set_of_role m r b ≡ true
  as_role x0 role = grind arith

  pub no_role : (r : Role) → (roles.Digit ≡ r → ⊥) → role_at m part b ≡ None → set_of_role m r b ≡ false
  no_role x0 other none = grind arith

  -- A byte has no other role.
  pub is_role : HasRoles m → (r : Role) → (roles.Digit ≡ r → ⊥) → set_of_role m r b ≡ true → role_at m part b ≡ Some r
  is_role h r other is = go (role_at m part b) refl where
    go : (o : Option Role) → role_at m part b ≡ o → o ≡ Some r
    go None none = absurd (false≢true (sym (no_role r other none) ∙ is))
    go (Some found) some = ap Some (h.one found r b (as_role found some) is)

module _ (C : Condition → Bool) (m : Notation) where
  pub took : (s : Summary) (b : ℕ) (P : Option Summary → Type 0) → (P None → ⊥) → P (step_by C m s b) → Took C m s b P
  took s b P none is = go (role_at m (part_of s.stage) b) refl is where
    go : (o : Option Role) → role_at m (part_of s.stage) b ≡ o → P (move_by C m s b o) → Took C m s b P
    go None plays is = absurd (none is)
    go (Some r) plays is = take s.ended (takes m s (b == 43) r) (admits C s b r) refl refl refl is where
      take : (e t a : Bool) → s.ended ≡ e → takes m s (b == 43) r ≡ t → admits C s b r ≡ a
          → P (if not e && (t && a) then Some (after s (b == 48) r) else None) → Took C m s b P
      take false true true going taken admitted is = record { role = r; plays = plays; going = going; taken = taken; admitted = admitted; rest = is }
      take _ _ _ going taken admitted is = absurd (none is)

  pub arrives_byte : (s : Summary) (b : ℕ) (r : Role) (c : Cuts) (text : List ℕ) (d : Cuts) → s.ended ≡ false → role_at m (part_of s.stage) b ≡ Some r
      → takes m s (b == 43) r ≡ true → admits C s b r ≡ true
      → Arrives C m (Some (after s (b == 48) r)) (count (part_of s.stage) (Some r) c) text d → Arrives C m (Some s) c (b ∷ text) d
  arrives_byte s b r c text d going plays taken admitted more = grind arith

-- Without conditions, what is taken arrives.
pub free_byte : (m : Notation) (part : Part) (stage : Stage) (gap : Bool) (b : ℕ) (r : Role) (c : Cuts) (text : List ℕ) (d : Cuts) → part_of stage ≡ part
    → role_at m part b ≡ Some r → takes_in m part stage gap (b == 43) r ≡ true → let s : Summary = record { stage = stage; gap = gap; ended = false } in
    Arrives no_condition m (Some (after s (b == 48) r)) (count part (Some r) c) text d → Arrives no_condition m (Some s) c (b ∷ text) d
free_byte m part stage gap b r c text d at = grind arith
