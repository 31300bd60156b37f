-- What some literal of a notation with sizes of groups begins with: what one without begins with, if its groups fit byte by byte.
use Rattle.std.proofs.Common.{rules}
use Rattle.lexical_literal.proofs.Common.{Bool, Group, HasRoles, HasSizes, IsFront, IsReady, List, Literal, None, Notation, Option, Part, Reads, Role, Some}
use Rattle.lexical_literal.proofs.Common.{Stage, Summary, [], admits, after, and_from, and_parts, ap, append_assoc, arith, cases_Bool}
use Rattle.lexical_literal.proofs.Common.{false, false≢true, first_group, follows, gap_fits, group_after, group_allows, grow, grown, has_digit}
use Rattle.lexical_literal.proofs.Common.{has_size, has_sizes, higher, if◌then◌else◌, inl, inr, is_open, is_place, is_run, is_signed, lacks_prefix}
use Rattle.lexical_literal.proofs.Common.{list_any}
use Rattle.lexical_literal.proofs.Common.{may_follow, most, nat_le, nat_lt, nat_tests, not, or_left, or_parts, or_right, part_of, refl, role_at, separators_in}
use Rattle.lexical_literal.proofs.Common.{start, subst, suc, sym, takes, takes_in, true, unsized, walk, zero, ℕ, ◌&&◌, ◌++◌, ◌+◌, ◌-◌, ◌==◌, ◌||◌, ◌∙◌, ◌∷◌}
use Rattle.lexical_literal.proofs.Common.{◌<◌, ◌≡◌, ◌≤◌}
use Rattle.lexical_util.specs.declared.feature_format.roles.Role.TheVariants as roles
use Rattle.lexical_util.specs.declared.format_flags.Part.TheVariants as parts
use Rattle.lexical_literal.specs.declared.syntax.Condition.TheVariants as conditions
use Rattle.lexical_literal.proofs.FrontLemmas.{begins, completed_there, ended_there, front_is_read, goes_on_there, literal_there}
use Rattle.lexical_literal.proofs.ScanLemmas.{admits_settled}
use Rattle.lexical_literal.proofs.GroupLemmas.{not_empty}
use Rattle.lexical_literal.proofs.RefusalLemmas.{other_roles}
use Rattle.lexical_literal.proofs.PartOfLemmas.{none_after}
use Rattle.lexical_literal.proofs.WalkLemmas.{as_role, digit_role, is_role, walk_append, took}
use Rattle.lexical_literal.proofs.SizeLemmas.{as_sized, as_unsized, ends, group_append, group_none, same_internal, some_size}
use Rattle.lexical_literal.proofs.StepLemmas.{mark_part}

module _ (m : Notation) where
  abbrev pub u : Notation
  u = unsized m

  -- TEXTS THAT FIT

  -- `is_sized g` is true if a separator is before `g`, and its part has a size.
  abbrev pub is_sized : Group → Bool
  is_sized g = g.separated && has_size m g.part

  grown_or : (P : Option Group → Type 0) (t f : Bool) (g next : Group) → f ≡ true → P (Some g) → P (Some next)
      → P (if not t then Some g else (if f then Some next else None))
  grown_or P x1 f g next fit same more = grind arith

  no_separator : (part : Part) (b : ℕ) → m.separator b ≡ false → role_at m part b ≡ Some roles.Separator → ⊥
  no_separator part b other role = false≢true (sym other ∙ as_role m part b roles.Separator role)

  -- Behind a group that need not be filled, all bytes but separators fit.
  pub calm_ends : (g : Group) (text : List ℕ) → is_sized g ≡ false → list_any m.separator text ≡ false → ends m (group_after m (Some g) text) ≡ true
  calm_ends g [] calm joined = grind arith
  calm_ends g (b ∷ text) calm joined = go (λ g calm. calm_ends g text calm (or_parts (m.separator b) _ joined).1) (role_at m g.part b) refl where
    fit : (separated size more : Bool) → (separated && size) ≡ false → (not size || (not separated || more)) ≡ true
    fit separated size more calm = grind arith

    go : ((g : Group) → is_sized g ≡ false → ends m (group_after m (Some g) text) ≡ true)
        → (o : Option Role) → role_at m g.part b ≡ o → ends m (group_after m (grow m g o) text) ≡ true
    go rest (Some roles.Separator) role = absurd (no_separator g.part b (or_parts (m.separator b) _ joined).0 role)
    go rest (Some roles.Digit) role = grown_or (λ o. ends m (group_after m o text) ≡ true) (has_sizes m) _ g (grown g (Some roles.Digit))
        (fit g.separated (has_size m g.part) _ calm) (rest g calm) (rest (grown g (Some roles.Digit)) calm)
    go rest o role = grown_or (λ o. ends m (group_after m o text) ≡ true) (has_sizes m) _ g (grown g o)
        (fit g.separated (has_size m g.part) _ calm) (rest g calm) (rest (grown g o) refl)

  -- Behind a full group, all but digits and separators fit.
  full_ends : (g : Group) (text : List ℕ) → group_allows m g None ≡ true → begins m (m.digit g.part) text ≡ false → list_any m.separator text ≡ false
      → ends m (group_after m (Some g) text) ≡ true
  full_ends g x1 full begun joined = grind (arith, ends, no_separator, calm_ends)

  -- WHAT HAS BEEN READ, AND ITS LAST GROUP

  -- `Open s g` holds if the group `g` behind a separator is what has been read last of a part.
  record Open (s : Summary) (g : Group) : Type 0 where
    going : s.ended ≡ false
    digit : has_digit s.stage ≡ true
    settled : lacks_prefix s.stage ≡ false
    gap : s.gap ≡ (g.digits == 0)
    run : s.gap ≡ false → is_run s.stage ≡ true
    within : g.digits ≤ most m

  record Linked (s : Summary) (g : Group) : Type 0 where
    part : g.part ≡ part_of s.stage
    sized : is_sized g ≡ true → Open s g

  -- No separator is before or behind the digits of a part with a size.
  no_empty : (part : Part) → has_size m part ≡ true → (u.flag (separators_in part).leading ≡ false) × (u.flag (separators_in part).trailing ≡ false)
  no_empty x0 sized = grind arith

  behind_digits : (part : Part) (stage : Stage) (gap : Bool) → has_size m part ≡ true → takes_in u part stage gap false roles.Separator ≡ true
      → has_digit stage ≡ true
  behind_digits part stage gap sized taken = search (rules, has_digit, may_follow, no_empty, and_parts, is_open, is_signed, separators_in, false≢true)

  linked_after : (s : Summary) (g : Group) (plus naught : Bool) (r : Role) → Linked s g → s.ended ≡ false → takes u s plus r ≡ true
      → group_allows m g (Some r) ≡ true → Linked (after s naught r) (grown g (Some r))
  linked_after s g plus naught roles.Digit linked going taken fit = grind arith
  linked_after s g plus naught roles.Separator linked going taken fit = record {
    part = linked.part ∙ sym (mark_part s.stage);
    sized = λ is.
        let digit = behind_digits (part_of s.stage) s.stage s.gap (ap (has_size m) (sym linked.part) ∙ is) taken in record {
          going = going;
          digit = grind arith;
          settled = grind arith;
          gap = refl;
          run = λ closed. absurd (false≢true (sym closed));
          within = omega arith;
        };
  }
  linked_after s g plus naught roles.Exponent linked going taken fit = record { part = refl; sized = λ is. absurd (false≢true is) }
  linked_after s g plus naught roles.Suffix linked going taken fit = record { part = linked.part; sized = λ is. absurd (false≢true is) }
  linked_after s g plus naught _ linked going taken fit = grind arith

  pub fit_of : (f : Bool) (next : Group) (text : List ℕ) (last : Group) → group_after m (if f then Some next else None) text ≡ Some last
      → (f ≡ true) × (group_after m (Some next) text ≡ Some last)
  fit_of x0 next text last is = grind (arith, group_none)

  linked_all : has_sizes m ≡ true → (s : Summary) (g : Group) (text : List ℕ) (t : Summary) (last : Group) → Linked s g
      → walk u (Some s) text ≡ Some t → group_after m (Some g) text ≡ Some last → Linked t last
  linked_all sized s g [] t last linked read grouped = grind arith
  linked_all sized s g (b ∷ text) t last linked read grouped =
      let one = took u.condition u s b (λ o. walk u o text ≡ Some t) (none_after u text t) read in
      let role = ap (λ part. role_at m part b) linked.part ∙ one.plays in
      let fit = fit_of (group_allows m g (Some one.role)) (grown g (Some one.role)) text last (rw (sized, role) at grouped) in
      linked_all sized (after s (b == 48) one.role) (grown g (Some one.role)) text t last
      (linked_after s g (b == 43) (b == 48) one.role linked one.going one.taken fit.0) one.rest fit.1

  first_linked : Linked start first_group
  first_linked = record { part = refl; sized = λ sized. absurd (false≢true sized) }

  -- What has been read is in the part of its last group.
  pub linked_there : has_sizes m ≡ true → (text : List ℕ) (s : Summary) (g : Group) → walk u (Some start) text ≡ Some s
      → group_after m (Some first_group) text ≡ Some g → g.part ≡ part_of s.stage
  linked_there sized text s g read grouped = (linked_all sized start first_group text s g first_linked read grouped).part

  -- FRONTS

  module _ (ready : IsReady u) (sizes : HasSizes m) where
    h : HasRoles m
    h = other_roles u m.flag m.condition ready.roles

    -- `Filling text s g` holds if `text` ends in the group `g` behind a separator, of a part that has a size.
    record Filling (text : List ℕ) (s : Summary) (g : Group) : Type 0 where
      read : walk u (Some start) text ≡ Some s
      grouped : group_after m (Some first_group) text ≡ Some g
      separated : g.separated ≡ true
      sized : has_size m g.part ≡ true

    module _ (text : List ℕ) (s : Summary) (g : Group) (is : Filling text s g) where
      linked : Linked s g
      linked = linked_all (some_size m g.part is.sized) start first_group text s g first_linked is.read is.grouped

      opened : Open s g
      opened = linked.sized (and_from _ _ is.separated is.sized)

      -- One more byte that is taken and fits.
      one_more : (b : ℕ) (r : Role) → role_at m g.part b ≡ Some r → takes u s (b == 43) r ≡ true → admits u.condition s b r ≡ true
          → follows m g (Some r) ≡ true → (grown g (Some r)).separated ≡ true → (grown g (Some r)).part ≡ g.part
          → Filling (text ++ b ∷ []) (after s (b == 48) r) (grown g (Some r))
      one_more b r role taken admitted follow separated part = grind (arith, walk_append, linked, group_append)

      internal : u.flag (separators_in (part_of s.stage)).internal ≡ true
      internal = same_internal m (part_of s.stage) (allowed (part_of s.stage) (ap (has_size m) (sym linked.part) ∙ is.sized)) where
        allowed : (part : Part) → has_size m part ≡ true → m.flag (separators_in part).internal ≡ true
        allowed parts.Integer sized = sizes.internal sized
        allowed _ sized = absurd (false≢true sized)

      follow : may_follow u s.stage ≡ true
      follow = elim (cases_Bool s.gap) [
        | inl gap ↦ next (has_digit s.stage) (may_follow u s.stage) opened.digit (no_empty (part_of s.stage) (ap (has_size m) (sym linked.part) ∙ is.sized)).1
            (rw (gap) at (goes_on_there u ready text s is.read).closes)
        | inr closed ↦ grind (arith, opened.run closed)
      ] where
        next : (digit next : Bool) → digit ≡ true → u.flag (separators_in (part_of s.stage)).trailing ≡ false
            → is_open u (part_of s.stage) digit next ≡ true → next ≡ true
        next digit more seen none is = grind arith

      admitted : (b : ℕ) (r : Role) → (roles.Sign ≡ r → ⊥) → admits u.condition s b r ≡ true
      admitted b r other = admits_settled u s b r opened.settled other

      zero_more : nat_lt g.digits (most m) ≡ true → Filling (text ++ 48 ∷ []) (after s true roles.Digit) (grown g (Some roles.Digit))
      zero_more small = one_more 48 roles.Digit (digit_role m g.part 48 (h.zero_is_digit g.part))
          (and_from _ _ (grind (arith, opened)) (and_from _ _ (place (has_digit s.stage) s.gap opened.digit) follow))
          (admitted 48 roles.Digit (λ e. cc)) (or_right _ _ small) is.separated refl where
            place : (digit gap : Bool) → digit ≡ true → gap_fits u (part_of s.stage) digit gap true ≡ true
            place digit false seen = refl
            place true true seen = internal
            place false true seen = absurd (false≢true seen)

      separator_more : s.gap ≡ false → (g.digits == higher m) ≡ true
          → Filling (text ++ sizes.separator ∷ []) (after s (sizes.separator == 48) roles.Separator) (grown g (Some roles.Separator))
      separator_more closed fit = one_more sizes.separator roles.Separator
          (is_role m g.part sizes.separator h roles.Separator (λ e. cc) (sizes.has_separator (some_size m g.part is.sized)))
          (and_from _ _ (grind (arith, opened)) (and_from _ _ (or_left _ _ (ap not closed)) (or_left _ _ (place (has_digit s.stage) opened.digit))))
          (admitted _ roles.Separator (λ e. cc)) (rw (is.separated) fit) refl refl where
            place : (digit : Bool) → digit ≡ true → (is_place u (part_of s.stage) digit true && may_follow u s.stage) ≡ true
            place true seen = and_from _ _ internal follow
            place false seen = absurd (false≢true seen)

    -- `Closable text` has what completes `text` to a literal.
    abbrev Closable : List ℕ → Type 0
    Closable text = (more : List ℕ) × (l : Literal) × Reads m l (text ++ more)

    closable_from : (text x : List ℕ) → Closable (text ++ x) → Closable text
    closable_from text x is = (x ++ is.0, is.1, subst (Reads m is.1) (append_assoc text x is.0) is.2)

    -- So many zeros more, behind which the text can be completed.
    zeros : (k : ℕ) (text : List ℕ) (s : Summary) (g : Group) → Filling text s g → g.digits + k ≤ most m
        → ((x : List ℕ) (t : Summary) (last : Group) → Filling x t last → last.digits ≡ g.digits + k → Closable x) → Closable text
    zeros zero text s g is within next = next text s g is (omega arith)
    zeros (suc k) text s g is within next =
        let small : nat_lt g.digits (most m) ≡ true = let low : g.digits + suc k ≤ most m = within in grind (arith, nat_tests) in
        closable_from text (48 ∷ []) (zeros k (text ++ 48 ∷ []) (after s true roles.Digit) (grown g (Some roles.Digit)) (zero_more text s g is small)
        (omega (arith, within)) (λ x t last more same. next x t last more (same ∙ omega arith)))

    -- A full group.
    close : (text : List ℕ) (s : Summary) (g : Group) → Filling text s g → (g.digits == m.number conditions.IntegerGroupSize) ≡ true → Closable text
    close text s g is fit =
        let closed = opened text s g is in
        let gap : s.gap ≡ false = closed.gap ∙ some g.digits (not_empty m sizes (some_size m g.part is.sized)).1 fit in
        let end = ended_there u ready text s is.read closed.going gap (closed.run gap) in
        let more = end.0.more in
        let found = literal_there u ready text s is.read more end.0.accepts in
        let full = full_ends g more (or_right _ _ (or_right _ _ fit))
        (ap (λ part. begins u (m.digit part) more) (linked text s g is).part ∙ end.1) end.0.joined in (
          more,
          found.0,
          as_sized m h sizes found.0 (text ++ more) found.1
              (ap (ends m) (group_append m (Some first_group) text more ∙ ap (λ o. group_after m o more) is.grouped) ∙ full),
        ) where
          some : (digits : ℕ) → 0 < m.number conditions.IntegerGroupSize → (digits == m.number conditions.IntegerGroupSize) ≡ true → (digits == 0) ≡ false
          some digits none fit = grind (arith, nat_tests)

    close_group : (text : List ℕ) (s : Summary) (g : Group) → Filling text s g → Closable text
    close_group text s g is = elim (cases_Bool (nat_le g.digits (m.number conditions.IntegerGroupSize))) [
      | inl low ↦ last text s g is low
      | inr high ↦
          let within = (opened text s g is).within in
          zeros (higher m - g.digits) text s g is (grind (arith, nat_tests)) (λ x t full more count.
          let some : (full.digits == 0) ≡ false = grind (arith, nat_tests) in
          closable_from x (sizes.separator ∷ []) (last (x ++ sizes.separator ∷ []) (after t (sizes.separator == 48) roles.Separator)
          (grown full (Some roles.Separator)) (separator_more x t full more ((opened x t full more).gap ∙ some) (grind (arith, nat_tests)))
          (grind (arith, nat_tests))))
    ] where
      last : (text : List ℕ) (s : Summary) (g : Group) → Filling text s g → nat_le g.digits (m.number conditions.IntegerGroupSize) ≡ true → Closable text
      last text s g is low = zeros (m.number conditions.IntegerGroupSize - g.digits) text s g is (grind (arith, nat_tests))
          (λ x t full more count. close x t full more (grind (arith, nat_tests)))

    -- What has been read, and whose groups fit, is a front.
    pub front_of : (text : List ℕ) (s : Summary) (g : Group) → walk u (Some start) text ≡ Some s → group_after m (Some first_group) text ≡ Some g
        → IsFront m text
    front_of text s g read grouped = let is = completed in record { more = is.0; literal = is.1; reads = is.2 } where
      completed : Closable text
      completed = elim (cases_Bool (is_sized g)) [
        | inl sized ↦ let both = and_parts g.separated _ sized in
            close_group text s g (record { read = read; grouped = grouped; separated = both.0; sized = both.1 })
        | inr calm ↦
            let more = completed_there u ready text s read in
            let found = literal_there u ready text s read more.more more.accepts in (
              more.more,
              found.0,
              as_sized m h sizes found.0 (text ++ more.more) found.1
                  (ap (ends m) (group_append m (Some first_group) text more.more ∙ ap (λ o. group_after m o more.more) grouped)
                  ∙ calm_ends g more.more calm more.joined),
            )
      ]

    -- A front has been read, and its groups fit.
    pub front_is_read_of : (text : List ℕ) → IsFront m text → walk u (Some start) text ≡ None → ⊥
    front_is_read_of text is = front_is_read u ready text (record {
      more = is.more;
      literal = is.literal;
      reads = (as_unsized m h sizes is.literal (text ++ is.more) is.reads).0;
    })

    pub front_fits : (text : List ℕ) → IsFront m text → group_after m (Some first_group) text ≡ None → ⊥
    front_fits text is none = false≢true (sym (ap (ends m) (group_append m (Some first_group) text is.more ∙ ap (λ o. group_after m o is.more) none
        ∙ group_none m is.more)) ∙ (as_unsized m h sizes is.literal (text ++ is.more) is.reads).1)
