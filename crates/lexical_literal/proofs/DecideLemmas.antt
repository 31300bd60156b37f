-- What has been read decides what a notation with sizes of groups allows, with other flags and conditions too.
use Rattle.lexical_literal.proofs.Common.{Allows, Bool, Condition, Flag, Group, HasRoles, HasSizes, IsReady, IsWeaker, List, None, Notation, Option, Part, Role}
use Rattle.lexical_literal.proofs.Common.{Some, Summary, [], and_from, and_parts, ap, arith, cases_Bool, false, false≢true, first_group, goes, group_after}
use Rattle.lexical_literal.proofs.Common.{group_allows, grow, grown, has_size, has_sizes, if◌then◌else◌, inl, inr, is_accepted, is_one_of, is_size, is_some}
use Rattle.lexical_literal.proofs.Common.{lets, makes_empty, not, or_left, refl, requirement_flags, role_at, role_next, start, step, subst, sym, true, unsized}
use Rattle.lexical_literal.proofs.Common.{walk, with_rules, ℕ, ◌&&◌, ◌++◌, ◌||◌, ◌↔◌, ◌∙◌, ◌∷◌, ◌≡◌}
use Rattle.lexical_util.specs.declared.format_flags.Part.TheVariants as parts
use Rattle.lexical_literal.specs.declared.syntax.Condition.TheVariants as conditions
use Rattle.lexical_literal.proofs.ConditionLemmas.{literal_arrives, literal_from}
use Rattle.lexical_literal.proofs.FitLemmas.{front_fits, front_is_read_of, front_of}
use Rattle.lexical_literal.proofs.RefusalLemmas.{other_ready, other_roles, read_too}
use Rattle.lexical_literal.proofs.WalkLemmas.{walk_append}
use Rattle.lexical_literal.proofs.SizeLemmas.{all_end, as_sized, as_unsized, ends, group_append, group_none, required}

some_of : {X : Type 0} (o : Option X) → (o ≡ None → ⊥) → (x : X) × (o ≡ Some x)
some_of x0 some = grind arith

no_size : (m : Notation) → has_sizes m ≡ false → (part : Part) → has_size m part ≡ false
no_size m none x2 = grind arith

module _ (m : Notation) (ready : IsReady (unsized m)) (sizes : HasSizes m) (front : List ℕ) (s : Summary) (g : Group)
    (read : walk (unsized m) (Some start) front ≡ Some s) (grouped : group_after m (Some first_group) front ≡ Some g) where
  abbrev u : Notation
  u = unsized m

  h : HasRoles m
  h = other_roles u m.flag m.condition ready.roles

  one_more : (b : ℕ) → walk u (Some start) (front ++ b ∷ []) ≡ step u s b
  one_more b = walk_append u.condition u (Some start) front (b ∷ []) ∙ ap (λ o. walk u o (b ∷ [])) read

  one_group : (b : ℕ) → group_after m (Some first_group) (front ++ b ∷ []) ≡ grow m g (role_at m g.part b)
  one_group b = group_append m (Some first_group) front (b ∷ []) ∙ ap (λ o. group_after m o (b ∷ [])) grouped

  pub grows : (r : Option Role) → group_allows m g r ≡ true → grow m g r ≡ None → ⊥
  grows r fit none = grind arith

  fitting : (r : Option Role) → (grow m g r ≡ None → ⊥) → group_allows m g r ≡ true
  fitting r some = grind arith

  pub decides_there : (next : Option ℕ) → (goes m s g next ≡ true) ↔ Allows m front next
  decides_there None = (
    λ is.
        let both = and_parts (is_accepted u (Some s)) (group_allows m g None) is in
        let l = literal_from u ready.roles ready.no_sizes front (ap (is_accepted u) read ∙ both.0) in
        (l.0, as_sized m h sizes l.0 front l.1 (ap (ends m) grouped ∙ both.1)),
    λ l.
        let both = as_unsized m h sizes l.0 front l.1 in
        and_from _ _ (sym (ap (is_accepted u) read) ∙ rw (l.1.whole) (literal_arrives u ready.roles l.0 both.0.literal).0) (sym (ap (ends m) grouped) ∙ both.1),
  )
  decides_there (Some b) = (
    λ is.
        let both = and_parts (is_some (step u s b)) (group_allows m g (role_at m g.part b)) is in
        let t = some_of (step u s b) (λ none. false≢true (sym (ap is_some none) ∙ both.0)) in
        let next = some_of (grow m g (role_at m g.part b)) (grows (role_at m g.part b) both.1) in
        front_of m ready sizes (front ++ b ∷ []) t.0 next.0 (one_more b ∙ t.1) (one_group b ∙ next.1),
    λ is. and_from _ _ (ap is_some (some_of (step u s b) (λ none. front_is_read_of m ready sizes (front ++ b ∷ []) is (one_more b ∙ none))).1)
        (fitting (role_at m g.part b) (λ none. front_fits m ready sizes (front ++ b ∷ []) is (one_group b ∙ none))),
  )

-- WITH OTHER FLAGS AND CONDITIONS

module _ (m : Notation) (A : Flag → Bool) (D : Condition → Bool) (weaker : IsWeaker m A D) (ready : IsReady (unsized m)) (sizes : HasSizes m) where
  abbrev n : Notation
  n = with_rules m A D

  unsized_weaker : IsWeaker (unsized m) (unsized n).flag (unsized n).condition
  unsized_weaker = record {
    no_more = λ f is. let two = and_parts ((unsized n).flag f) _ is in
        required m f (and_from _ _ (weaker.no_more f (and_from _ _ (and_parts _ (A f) two.0).1 two.1)) two.1);
    no_less = λ f is. less (makes_empty f) (D conditions.IntegerGroupSize) (has_sizes m) (m.flag f) (A f) (is_one_of requirement_flags f)
        (weaker.conditions conditions.IntegerGroupSize) (weaker.no_less f) is;
    conditions = λ c is. let two = and_parts (not (is_size c)) (D c) is in and_from _ _ two.0 (weaker.conditions c two.1);
  } where
    less : (i d m x a r : Bool) → (d ≡ true → m ≡ true) → (x ≡ true → (a || r) ≡ true)
        → (not (i && m) && x) ≡ true → ((not (i && d) && a) || r) ≡ true
    less i d m x a r one two is = grind arith

  some_sizes : has_sizes n ≡ true → has_sizes m ≡ true
  some_sizes is = grind arith

  other_sizes : HasSizes n
  other_sizes = grind arith

  -- Groups that fit still do.
  still : (g : Group) (r : Option Role) → group_allows m g r ≡ true → group_allows n g r ≡ true
  still g r fit = grind arith

  same_groups : has_sizes n ≡ true → has_sizes m ≡ true → (g : Group) (text : List ℕ) (last : Group) → group_after m (Some g) text ≡ Some last
      → group_after n (Some g) text ≡ Some last
  same_groups less more g [] last is = is
  same_groups less more g (b ∷ text) last is = go (group_allows m g (role_at m g.part b)) refl (rw (more) at is)
      (same_groups less more (grown g (role_at m g.part b)) text last) where
        go : (f : Bool) → group_allows m g (role_at m g.part b) ≡ f → group_after m (if f then Some (grown g (role_at m g.part b)) else None) text ≡ Some last
            → (group_after m (Some (grown g (role_at m g.part b))) text ≡ Some last → group_after n (Some (grown g (role_at m g.part b))) text ≡ Some last)
            → group_after n (grow n g (role_at n g.part b)) text ≡ Some last
        go true fit is rest = rw (less, still g (role_at m g.part b) fit) (rest is)
        go false fit is rest = absurd (let none = group_none m text in cc)

  -- What has been read decides what is allowed.
  pub decided_of : (front : List ℕ) (s : Summary) (g : Group) → walk (unsized m) (Some start) front ≡ Some s
      → group_after m (Some first_group) front ≡ Some g → (next : Option ℕ) → (goes n s g next ≡ true) ↔ Allows n front next
  decided_of front s g read grouped next = elim (cases_Bool (has_sizes n)) [
    | inl less ↦ decides_there n ready_there other_sizes front s g read_there (same_groups less (some_sizes less) first_group front g grouped) next
    | inr none ↦ subst (λ t. (lets (unsized n) s next && t ≡ true) ↔ Allows n front next)
        (free none first_group (role_next n parts.Integer next) ∙ sym (free none g (role_next n g.part next)))
        (decides_there n ready_there other_sizes front s first_group read_there (all_end n none first_group front) next)
  ] where
    free : has_sizes n ≡ false → (g : Group) (r : Option Role) → group_allows n g r ≡ true
    free none g r = or_left _ _ (ap not (no_size n none g.part))

    read_there : walk (unsized n) (Some start) front ≡ Some s
    read_there = read_too (unsized m) (unsized n).flag (unsized n).condition ready unsized_weaker front s read

    ready_there : IsReady (unsized n)
    ready_there = other_ready (unsized m) (unsized n).flag (unsized n).condition unsized_weaker ready
