-- In a lawful format with options that fit, or without options, a byte plays at most one role.
use Rattle.std.proofs.Common.{rules, ◌≡◌, ◌≢◌, ◌<◌, ◌⊎◌, inl, inr, ℕ, ◌↔◌, Bool, List, [], ◌∷◌, Some, None, IsTrue, refl, arith}
use Rattle.std.proofs.lemmas.Bool.{and_parts}
use Rattle.std.proofs.lemmas.Bool.Decides.{nat_tests}
use Rattle.std.specs.List.{find}
use Rattle.lexical_base.specs.Ascii.{ByteSet}
use Rattle.lexical_flags.specs.Options.{OptionsHaveOneRole}
use Rattle.lexical_flags.specs.Record.{Record, raw, separator_allowed}
use Rattle.lexical_flags.specs.Roles.{AreDisjoint, Disjoint, cased, other_case, digits, separator, seven_roles, used_separator}
use Rattle.lexical_flags.specs.Rules.{Lawful}
use Rattle.lexical_util.specs.declared.feature_format.roles.Role.{Role}
use Rattle.lexical_util.specs.declared.feature_format.roles.Role.TheVariants as roles
use Rattle.lexical_util.specs.Additions.ByteRoles.{role_set, roles_in_order, first_role, IsOnlyRole}

-- `stored_set r e p role` is `role_set r e p role`, with the digit separator even if no flag allows one.
abbrev stored_set : Record → ℕ → ℕ → Role → ByteSet
stored_set r e p roles.Separator = separator r
stored_set r e p role = role_set r e p role

-- A byte that plays a role is in its stored set.
stored : (r : Record) (e p byte : ℕ) (role : Role) → IsTrue (role_set r e p role byte) → IsTrue (stored_set r e p role byte)
stored r e p byte roles.Separator plays = (and_parts (separator_allowed r) (separator r byte) plays).1
stored r e p byte _ plays = plays

-- `IsAmong list role` holds if `role` is in `list`.
abbrev IsAmong : List Role → Role → Type 0
IsAmong [] role = ⊥
IsAmong (x ∷ list) role = (x ≡ role) ⊎ IsAmong list role

-- Every role is looked for.
listed : (role : Role) → IsAmong roles_in_order role
listed roles.Digit = inl refl
listed _ = search (inl, inr) depth 8

-- What is found passes the test. A role in the list that alone passes the test is found.
module _ (test : Role → Bool) (role : Role) where
  found : (list : List Role) → find test list ≡ Some role → IsTrue (test role)
  found [] = λ same. let no : None ≡ Some role = same in cc
  found (x ∷ list) = let rest = found list in λ same. grind arith

  finds : IsTrue (test role) → ((x : Role) → IsTrue (test x) → x ≡ role) → (list : List Role) → IsAmong list role → find test list ≡ Some role
  finds plays alone [] none = absurd none
  finds plays alone (x ∷ list) among = let rest = finds plays alone list in grind arith

-- The other case of a byte is a byte, and so is each byte that plays the role of a byte.
other_below : (own : ℕ) → own < 256 → other_case own < 256
other_below own below = grind (arith, nat_tests)

cased_below : (counts : Bool) (own byte : ℕ) → own < 256 → IsTrue (cased counts own byte) → byte < 256
unfolding cased
cased_below counts own byte below is = grind (arith, nat_tests, other_below own below)

-- `AreApart word e p` holds if `e` and `p` are below 256, and if no byte plays two of the seven roles.
pub record AreApart (word e p : ℕ) : Type 0 where
  pub exponent_below : e < 256
  pub point_below : p < 256
  pub roles : AreDisjoint (seven_roles (raw word) e p)

pub apart_from : (word e p : ℕ) → OptionsHaveOneRole word e p → AreApart word e p
apart_from word e p is = search rules

-- These lemmas assume the law that two sets are disjoint if and only if no byte is in both.
module _ (law : (A B : ByteSet) → Disjoint A B ↔ ((byte : ℕ) → byte < 256 → IsTrue (A byte) → IsTrue (B byte) → ⊥)) (word : ℕ) where
  -- In a lawful format, no byte is both a digit and the digit separator.
  pub digit_or_separator : Lawful word → (byte : ℕ) → IsTrue (digits (raw word) byte) → IsTrue (used_separator (raw word) byte) → ⊥
  unfolding Lawful
  digit_or_separator lawful byte digit used = search (rules, stored, and_parts, cased_below)

  -- The other lemmas are on a format and two bytes with which no byte plays two roles.
  module _ (e p : ℕ) (apart : AreApart word e p) where
    Disjoint-sym : (A B : ByteSet) → Disjoint A B → Disjoint B A
    Disjoint-sym A B none = (law B A).1 (λ byte below in_b in_a. (law A B).0 none byte below in_a in_b)

    -- Each byte that plays another role than a digit is below 256.
    below : (role : Role) → roles.Digit ≢ role → (byte : ℕ) → IsTrue (stored_set (raw word) e p role byte) → byte < 256
    below roles.Digit other byte is = absurd (other refl)
    below roles.Sign other byte is = grind (arith, nat_tests)
    below _ other byte is = cased_below _ _ byte (omega arith) is

    -- If a byte is in two stored sets, then their roles are equal.
    one_below : (byte : ℕ) → byte < 256 → (a b : Role) → IsTrue (stored_set (raw word) e p a byte) → IsTrue (stored_set (raw word) e p b byte) → a ≡ b
    one_below byte small roles.Digit roles.Digit in_a in_b = refl
    one_below byte small roles.Sign roles.Sign in_a in_b = refl
    one_below byte small roles.Separator roles.Separator in_a in_b = refl
    one_below byte small roles.Prefix roles.Prefix in_a in_b = refl
    one_below byte small roles.Suffix roles.Suffix in_a in_b = refl
    one_below byte small roles.Exponent roles.Exponent in_a in_b = refl
    one_below byte small roles.Point roles.Point in_a in_b = refl
    one_below byte small a b in_a in_b = absurd ((law (stored_set (raw word) e p a) (stored_set (raw word) e p b)).0
        (search (Disjoint-sym, apart.roles)) byte small in_a in_b)

    one_stored : (byte : ℕ) (a b : Role) → IsTrue (stored_set (raw word) e p a byte) → IsTrue (stored_set (raw word) e p b byte) → a ≡ b
    one_stored byte a b in_a in_b = search (rules, one_below, below)

    -- A byte plays at most one role.
    pub one_role : (byte : ℕ) (a b : Role) → IsTrue (role_set (raw word) e p a byte) → IsTrue (role_set (raw word) e p b byte) → a ≡ b
    one_role byte a b in_a in_b = one_stored byte a b (stored (raw word) e p byte a in_a) (stored (raw word) e p byte b in_b)

    -- The first role of a byte is its only role.
    pub first_role-only : (byte : ℕ) → IsOnlyRole (raw word) e p byte (first_role (raw word) e p byte)
    first_role-only byte role = (
      λ plays. finds test role plays (λ x is. one_role byte x role is plays) roles_in_order (listed role),
      found test role roles_in_order,
    ) where
      test : Role → Bool
      test own = role_set (raw word) e p own byte
