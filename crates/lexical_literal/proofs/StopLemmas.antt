-- The last group before the bytes that cannot follow, and what it allows.
use Rattle.lexical_literal.proofs.Common.{Allows, Bool, ByteSet, Condition, Flag, Group, HasRoles, HasSizes, IsReadOf, IsReady, IsWeaker, List, Notation}
use Rattle.lexical_literal.proofs.Common.{Option, Part, Role, Some, Summary, [], ap, append-nil, append_assoc, arith, cases_Bool, false, false_from_ne_true}
use Rattle.lexical_literal.proofs.Common.{first_group, goes, group_after, group_allows, grown, has_size, has_sizes, if◌then◌else◌, index_behind, inl, inr}
use Rattle.lexical_literal.proofs.Common.{length, length-append, lets, marks_of, not, part_of, refl, role_at, role_next, start, subst, sym, true, unsized, walk}
use Rattle.lexical_literal.proofs.Common.{with_rules, ℕ, ◌&&◌, ◌++◌, ◌+◌, ◌-◌, ◌||◌, ◌↔◌, ◌∙◌, ◌∷◌, ◌≡◌}
use Rattle.lexical_util.specs.declared.feature_format.roles.Role.TheVariants as roles
use Rattle.lexical_util.specs.declared.format_flags.Part.TheVariants as parts
use Rattle.lexical_literal.proofs.BlameLemmas.{own_weaker}
use Rattle.lexical_literal.proofs.CauseLemmas.{behind_more}
use Rattle.lexical_literal.proofs.DecideLemmas.{decided_of}
use Rattle.lexical_literal.proofs.FitLemmas.{fit_of, linked_there}
use Rattle.lexical_literal.proofs.PartOfLemmas.{ends_in}
use Rattle.lexical_literal.proofs.RefusalLemmas.{other_roles}
use Rattle.lexical_literal.proofs.WalkLemmas.{as_role, digit_role}
use Rattle.lexical_literal.proofs.SizeLemmas.{some_size}

module _ (m : Notation) (h : HasRoles m) where
  abbrev no_digit : ByteSet
  no_digit byte = not (m.digit parts.Integer byte)

  -- `Counts text g` holds if the digits of the group `g`, of a part that has a size, are those that `text` ends in.
  abbrev Counts : List ℕ → Group → Type 0
  Counts text g = has_size m g.part ≡ true → g.digits + index_behind no_digit text ≡ length text

  behind_digit : (text : List ℕ) (b : ℕ) → m.digit parts.Integer b ≡ true → index_behind no_digit (text ++ b ∷ []) ≡ index_behind no_digit text
  behind_digit text b is = behind_more no_digit text b ∙ ap (λ t. if not t then length text + 1 else index_behind no_digit text) is

  other_role : (part : Part) (b : ℕ) (r : Role) → (roles.Digit ≡ r → ⊥) → role_at m part b ≡ Some r → m.digit parts.Integer b ≡ false
  other_role part b r other role = false_from_ne_true _ (λ digit.
      other (h.one roles.Digit r b (as_role m parts.Integer b roles.Digit (digit_role m parts.Integer b digit)) (as_role m part b r role)))

  counts_more : (text : List ℕ) (b : ℕ) (g : Group) (o : Option Role) → role_at m g.part b ≡ o → Counts text g → Counts (text ++ b ∷ []) (grown g o)
  counts_more text b g x3 role counts = grind (arith, behind_more, behind_digit, length-append, other_role)

  counts_all : has_sizes m ≡ true → (x text : List ℕ) (g last : Group) → Counts x g → group_after m (Some g) text ≡ Some last → Counts (x ++ text) last
  counts_all sized x [] g last counts is = let same : g ≡ last = cc in subst (λ x. Counts x last) (sym (append-nil x)) (subst (Counts x) same counts)
  counts_all sized x (b ∷ text) g last counts is = subst (λ x. Counts x last) (append_assoc x (b ∷ []) text)
      (counts_all sized (x ++ b ∷ []) text (grown g (role_at m g.part b)) last (counts_more x b g (role_at m g.part b) refl counts)
      (fit_of m _ (grown g (role_at m g.part b)) text last (rw (sized) at is)).1)

module _ (m : Notation) (ready : IsReady (unsized m)) (sizes : HasSizes m) (front : List ℕ) (s : Summary) (g : Group)
    (read : walk (unsized m) (Some start) front ≡ Some s) (grouped : group_after m (Some first_group) front ≡ Some g) where
  h : HasRoles m
  h = other_roles (unsized m) m.flag m.condition ready.roles

  -- `last` is the group that an error has.
  abbrev last : Group
  last = record { part = part_of s.stage; separated = g.separated; digits = (marks_of m front).size - (marks_of m front).group }

  same_group : has_size m g.part ≡ true → g ≡ last
  same_group is =
      let sized = some_size m g.part is in
      let counts = counts_all m h sized [] front first_group g (λ _. refl) grouped is in
      let digits : g.digits ≡ length front - (marks_of m front).group = rw (sized) (omega (arith, counts)) in
      λ j. record { part = linked_there m sized front s g read grouped j; separated = g.separated; digits = digits j }

  module _ (A : Flag → Bool) (D : Condition → Bool) (weaker : IsWeaker m A D) where
    abbrev n : Notation
    n = with_rules m A D

    free : (part : Part) (t : Bool) → has_size m part ≡ false → (not (has_size n part) || t) ≡ true
    free x0 t none = grind arith

    same_fit : (next : Option ℕ) → group_allows n g (role_next n g.part next) ≡ group_allows n last (role_next n last.part next)
    same_fit next = elim (cases_Bool (has_size m g.part)) [
      | inl is ↦ ap (λ (g : Group). group_allows n g (role_next n g.part next)) (same_group is)
      | inr none ↦ free g.part _ none ∙ sym (free last.part _ (grind (arith, linked_there)))
    ]

  -- It allows what the group that has been read allows.
  pub goes_too : (next : Option ℕ) → goes m s g next ≡ goes m s last next
  goes_too next = ap (λ t. lets (unsized m) s next && t) (same_fit m.flag m.condition (own_weaker m) next)

  -- What has been read, with this group, decides what is allowed.
  pub is_read_of : IsReadOf m s last front
  is_read_of = record {
    decides = λ next A D weaker. subst (λ t. ((lets (unsized (with_rules m A D)) s next && t) ≡ true) ↔ Allows (with_rules m A D) front next)
        (same_fit A D weaker next) (decided_of m A D weaker ready sizes front s g read grouped next);
    part = ends_in (unsized m) ready.roles start front s read;
  }
