-- The flags that are found are to blame.
use Rattle.lexical_literal.proofs.Common.{Allows, Blame, Bool, Condition, Flag, Grammar, Group, IsCause, IsReadOf, IsRefusal, IsTrue, IsUnmet, IsValidUpTo}
use Rattle.lexical_literal.proofs.Common.{IsWeaker, List, Marks, None, Notation, Option, Part, ReadErrorKind, Role, Some, Spot, Summary, adding, all_conditions}
use Rattle.lexical_literal.proofs.Common.{alone, and_from, and_parts, ap, arith, bare, binds, blame, case_set, cases, cases_Bool, false, false≢true}
use Rattle.lexical_literal.proofs.Common.{first_unmet, flag_bits, goes, group_allows, group_at, has, has_size, if◌then◌else◌, inl, inr, is_at, is_at_gap}
use Rattle.lexical_literal.proofs.Common.{has_sizes, is_one_of, kept, length, length-take-le, lets, lowest, marks_of, mask_of, no_condition, not, notation_of}
use Rattle.lexical_literal.proofs.Common.{number_separator_flags, other_case, otherwise, part_of, place_of, raw, refl, refusal_of, requirement_flags}
use Rattle.lexical_literal.proofs.Common.{requirements, requiring, role_at, role_next, separators, shown, slice_get, some_unmet, spot_of, subst, sum_by, sym}
use Rattle.lexical_literal.proofs.Common.{tail_of, take, true, unmet, unsized, with_rules, zeros, ℕ, ◌&&◌, ◌==◌, ◌||◌, ◌↔◌, ◌∙◌, ◌≡◌, ◌≤◌, ◌⊎◌}
use Rattle.lexical_literal.specs.Cause.{IsCaseFlag, IsRequirement, Permits, RefusesAlone}
use Rattle.lexical_util.specs.Layout as layout
use Rattle.lexical_util.specs.declared.format_flags.Part.TheVariants as parts
use Rattle.lexical_literal.specs.declared.cause.ReadErrorKind.TheVariants as causes
use Rattle.lexical_literal.specs.declared.syntax.Condition.TheVariants as conditions
use Rattle.lexical_literal.proofs.CauseLemmas.{flag_zero, found_in, mask_flags, none_of, only_mask, some_of}
use Rattle.lexical_literal.proofs.GroupLemmas.{same_unsized}
use Rattle.lexical_literal.proofs.JointLemmas.{at_next, each_passes, free_allows, free_is, going, joint, leads, passes, sizing, split}
use Rattle.lexical_literal.proofs.NumberLemmas.{has_kept, none_of_all}

-- FEWER REQUIREMENTS

module _ (m : Notation) where
  pub bare_weaker : IsWeaker m (bare m).flag no_condition
  bare_weaker = record { no_more = λ f is. grind arith; no_less = λ f is. grind arith; conditions = λ c is. absurd (false≢true is) }

  pub own_weaker : IsWeaker m m.flag m.condition
  own_weaker = record { no_more = λ f is. grind arith; no_less = λ f is. grind arith; conditions = λ c is. is }

  -- One condition of those that are set.
  requiring_weaker : (c : Condition) → m.condition c ≡ true → IsWeaker m (bare m).flag (requiring c (bare m)).condition
  requiring_weaker c set = grind arith

  weak_adding : (e x r : Bool) → ((e || (x && not r)) && r) ≡ true → e ≡ true
  weak_adding e x r is = grind arith

  -- One requirement that is set, or one that allows separators.
  pub adding_weaker : (f : Flag) → (IsTrue (is_one_of requirement_flags f) → m.flag f ≡ true) → IsWeaker m (adding f (bare m)).flag no_condition
  adding_weaker f set = grind (arith, weak_adding)

  pub permits_weaker : (f : Flag) → is_one_of number_separator_flags f ≡ true → IsWeaker m (adding f (bare m)).flag no_condition
  permits_weaker f separates = adding_weaker f (λ requires. absurd (false≢true (sym (grind arith) ∙ and_from _ _ requires separates)))

-- FLAGS THAT REFUSE TOGETHER

-- Without conditions, groups have no sizes.
goes_free : (m : Notation) (A : Flag → Bool) (s : Summary) (g : Group) (next : Option ℕ)
    → goes (with_rules m A no_condition) s g next ≡ free_allows m (with_rules m A no_condition) s next
goes_free m A s g next = all _ _ (fits_free g.part _)
    ∙ ap (λ n. lets n s next) (same_unsized (with_rules m A no_condition) (λ c _. refl)) ∙ free_is m A s next where
      fits_free : (part : Part) (t : Bool) → (not (has_size (with_rules m A no_condition) part) || t) ≡ true
      fits_free part t = grind arith

      all : (x t : Bool) → t ≡ true → (x && t) ≡ x
      all x t is = grind arith

-- What no flag and no condition refuses alone.
module _ (m : Notation) (s : Summary) (g : Group) (next : Option ℕ) (allowed : goes (bare m) s g next ≡ true) (refused : goes m s g next ≡ false)
    (none_alone : (f : Flag) → alone m s g next f ≡ false) (none_unmet : (c : Condition) → unmet m s g next c ≡ false) where
  abbrev role : Option Role
  role = role_next m g.part next

  abbrev only : Condition → Notation
  only c = requiring c (bare m)

  met : (x free y : Bool) → (x && (free && not y)) ≡ false → free ≡ true → x ≡ true → y ≡ true
  met x free y none is set = grind arith

  goes_with : (c : Condition) → m.condition c ≡ true → goes (only c) s g next ≡ true
  goes_with c set = met (m.condition c) (goes (bare m) s g next) _ (none_unmet c) allowed set

  -- What goes on with some conditions, the flags and these let go on.
  parts_with : (C : Condition → Bool) → goes (sizing m C) s g next ≡ true
      → (free_allows m (unsized (sizing m C)) s next ≡ true) × (passes m (unsized (sizing m C)).condition s next ≡ true)
  parts_with C is = and_parts _ _ (sym (split m (unsized (sizing m C)).flag (unsized (sizing m C)).condition s next) ∙ (and_parts _ _ is).0)

  fit : group_allows m g role ≡ true
  fit = grind (arith, and_parts, goes_with)

  flags_refuse : free_allows m (unsized m) s next ≡ false
  flags_refuse = grind (arith, split, each_passes, parts_with, goes_with, fit)

  leading : (C : Condition → Bool) (part : Part) → part_of s.stage ≡ part → has_size (sizing m C) part ≡ has_size m part
      → goes (sizing m C) s g next ≡ true → leads m ≡ true
  leading C part at sized is =
      let free = (parts_with C is).0 in
      joint m s next (going m (unsized (sizing m C)) (unsized m) s next free flags_refuse) C
      (subst (λ part. has_size (sizing m C) part ≡ has_size m part) (sym at) sized)
      (record { each = λ f is. sym (goes_free m (adding f (bare m)).flag s g next) ∙ with_flag (binds m f) _ (none_alone f) is }) free flags_refuse where
        with_flag : (x y : Bool) → (x && not y) ≡ false → x ≡ true → y ≡ true
        with_flag x y none set = grind arith

  in_part : (part : Part) → part_of s.stage ≡ part → leads m ≡ true
  in_part parts.Integer at = elim (cases_Bool (has_sizes m)) [
    | inl set ↦ leading (only conditions.IntegerGroupSize).condition parts.Integer at (sym set) (goes_with conditions.IntegerGroupSize set)
    | inr none ↦ leading no_condition parts.Integer at (sym none) allowed
  ]
  in_part parts.Fraction at = leading no_condition parts.Fraction at refl allowed
  in_part parts.Exponent at = leading no_condition parts.Exponent at refl allowed

  -- A flag on leading zeros is to blame.
  some_zero : (f : Flag) × IsTrue (zeros m f)
  some_zero = go (in_part (part_of s.stage) refl) where
    go : leads m ≡ true → (f : Flag) × IsTrue (zeros m f)
    go is = elim (cases_Bool (m.flag layout.no_float_leading_zeros)) [
      | inl float ↦ (layout.no_float_leading_zeros, and_from _ true (and_from _ true float refl) refl)
      | inr other ↦ (layout.no_integer_leading_zeros, grind arith)
    ]

-- REQUIREMENTS

choose : {X : Type 0} (Q : X → Type 0) (t : Bool) (x y : X) → (t ≡ true → Q x) → (t ≡ false → Q y) → Q (if t then x else y)
choose Q x1 x y is other = grind arith

-- What holds of some flags holds of those of their mask.
as_flags : (Q : (Flag → Bool) → Type 0) (P : Flag → Bool) → Q P → Q (raw (mask_of P)).flag
as_flags Q P = subst Q (λ j f. sym (mask_flags P f) j)

module _ (m : Notation) (s : Summary) (g : Group) (front : List ℕ) (read : IsReadOf m s g front) (next : Option ℕ) where
  refuses : (A : Flag → Bool) (D : Condition → Bool) → IsWeaker m A D
      → (not (goes (with_rules m A D) s g next) ≡ true) ↔ (Allows (with_rules m A D) front next → ⊥)
  refuses A D weaker = grind arith

  binding : (f : Flag) → binds m f ≡ true → IsWeaker m (adding f (bare m)).flag no_condition
  binding f is = adding_weaker m f (λ _. (and_parts (m.flag f) _ is).0)

  alone_refuses : (f : Flag) → (alone m s g next f ≡ true) ↔ RefusesAlone m front next f
  alone_refuses f = (
    λ is. let both = and_parts (binds m f) _ is in (both.0, (refuses _ _ (binding f both.0)).0 both.1),
    λ is. and_from _ _ is.0 ((refuses _ _ (binding f is.0)).1 is.1),
  )

  -- The conditions that are to blame.
  pub each_unmet : (c : Condition) → (unmet m s g next c ≡ true) ↔ IsUnmet m front next c
  each_unmet c = grind (arith, and_parts, bare_weaker, requiring_weaker)

  none_unmet : some_unmet m s g next ≡ false → (c : Condition) → unmet m s g next c ≡ false
  none_unmet none c = none_of_all (unmet m s g next) none c

  module _ (allowed : goes (bare m) s g next ≡ true) (refused : goes m s g next ≡ false) where
    -- Flags that refuse alone, or else those on leading zeros.
    is_requirement : IsRequirement m front next (raw (requirements m s g next)).flag
    is_requirement = choose (λ (mask : ℕ). IsRequirement m front next (raw mask).flag) (mask_of (alone m s g next) == 0 && not (some_unmet m s g next)) _ _
        (λ none.
        let both = and_parts (mask_of (alone m s g next) == 0) _ none in
        let no = none_of (alone m s g next) both.0 in
        let no_unmet = none_unmet (none_there _ both.1) in
        let none_alone = λ (f : Flag) (refuses : RefusesAlone m front next f). false≢true (sym (no f) ∙ (alone_refuses f).1 refuses) in
        as_flags (IsRequirement m front next) (zeros m) (record {
          refused = not_allowed;
          allowed = is_allowed;
          some = inl (some_zero m s g next allowed refused no no_unmet);
          each = λ f. (
            λ is. inr (record {
              none_alone = none_alone;
              none_unmet = λ c is. false≢true (sym (no_unmet c) ∙ (each_unmet c).1 is);
              zeros = is;
            }),
            λ is. elim is [ inl refuses ↦ absurd (none_alone f refuses) | inr jointly ↦ jointly.zeros ],
          );
        })) (λ some. let first = first_of some in as_flags (IsRequirement m front next) (alone m s g next) (record {
          refused = not_allowed;
          allowed = is_allowed;
          some = elim first [ inl flag ↦ inl flag | inr c ↦ inr (c.0, (each_unmet c.0).0 c.1) ];
          each = λ f. (
            λ is. inl ((alone_refuses f).0 is),
            λ is. elim is [
              | inl refuses ↦ (alone_refuses f).1 refuses
              | inr jointly ↦ elim first [
                | inl flag ↦ absurd (jointly.none_alone flag.0 ((alone_refuses flag.0).0 flag.1))
                | inr c ↦ absurd (jointly.none_unmet c.0 ((each_unmet c.0).0 c.1))
              ]
            ],
          );
        })) where
          not_allowed : Allows m front next → ⊥
          not_allowed = (refuses m.flag m.condition (own_weaker m)).0 (ap not refused)

          is_allowed : Allows (bare m) front next
          is_allowed = (read.decides next _ _ (bare_weaker m)).0 allowed

          none_there : (u : Bool) → not u ≡ true → u ≡ false
          none_there u is = grind arith

          some_there : (u : Bool) → not u ≡ false → u ≡ true
          some_there u is = grind arith

          first_of : (mask_of (alone m s g next) == 0 && not (some_unmet m s g next)) ≡ false
              → ((f : Flag) × (alone m s g next f ≡ true)) ⊎ ((c : Condition) × (unmet m s g next c ≡ true))
          first_of some = elim (cases_Bool (mask_of (alone m s g next) == 0)) [
            | inl zero ↦ inr (found_in (unmet m s g next) all_conditions (some_there _ (ap (λ t. t && not (some_unmet m s g next)) (sym zero) ∙ some)))
            | inr flag ↦ inl (some_of (alone m s g next) flag)
          ]

-- THE CAUSE

module _ (m : Notation) (s : Summary) (g : Group) (front : List ℕ) (read : IsReadOf m s g front) where
  module _ (byte : ℕ) (none : goes (bare m) s g (Some byte) ≡ false) where
    not_allowed : Allows (bare m) front (Some byte) → ⊥
    not_allowed = (refuses m s g front read (Some byte) (bare m).flag no_condition (bare_weaker m)).0 (ap not none)

    at_place : (f : Flag) → is_one_of number_separator_flags f ≡ true → goes (adding f (bare m)) s g (Some byte) ≡ true
        → (is_at_gap m s (Some byte) ≡ true) × (is_at (place_of m (part_of s.stage) s.stage s.gap (role_at m (part_of s.stage) byte))
        (part_of s.stage) f ≡ true)
    at_place f separates allowed = and_parts (is_at_gap m s (Some byte)) _
        (at_next m f s byte separates (sym (goes_free m (bare m).flag s g (Some byte)) ∙ none)
        (sym (goes_free m (adding f (bare m)).flag s g (Some byte)) ∙ allowed))

    found : (f : Flag) → separators m s g (Some byte) f ≡ true → (is_one_of number_separator_flags f ≡ true) × (goes (adding f (bare m)) s g (Some byte) ≡ true)
    found f is = and_parts (is_one_of number_separator_flags f) _ (and_parts (is_at_gap m s (Some byte)) _ is).1

    permits : (f : Flag) → IsTrue (separators m s g (Some byte) f) ↔ Permits m front byte f
    permits f = (
      λ is. let both = found f is in (both.0, (read.decides (Some byte) _ _ (permits_weaker m f both.0)).0 both.1),
      λ is.
          let allowed = (read.decides (Some byte) _ _ (permits_weaker m f is.0)).1 is.1 in
          and_from _ _ (at_place f is.0 allowed).0 (and_from _ _ is.0 allowed),
    )

    at : (f : Flag) → separators m s g (Some byte) f ≡ true
        → is_at (place_of m (part_of s.stage) s.stage s.gap (role_at m (part_of s.stage) byte)) (part_of s.stage) f ≡ true
    at f is = let both = found f is in (at_place f both.0 both.1).1

    is_case : (f : Flag) → IsTrue (cases m s g byte f) ↔ IsCaseFlag m front byte f
    is_case f =
        let other = read.decides (Some (other_case byte)) (bare m).flag no_condition (bare_weaker m) in (
          λ is. let both = and_parts (goes (bare m) s g (Some (other_case byte))) (case_set f m (other_case byte)) is in (both.1, other.0 both.0),
          λ is. and_from _ _ (other.1 is.1) is.0,
        )

    no_flag : {X : Flag → Type 0} (P : Flag → Bool) → ((f : Flag) → IsTrue (P f) ↔ X f) → (mask_of P == 0) ≡ true → (f : Flag) → X f → ⊥
    no_flag P each zero f is = false≢true (sym (none_of P zero f) ∙ (each f).1 is)

    is_wrong : IsCause m front (Some byte) (otherwise m s g (Some byte)).kind (raw (otherwise m s g (Some byte)).mask).flag
    is_wrong = choose (λ (b : Blame). IsCause m front (Some byte) b.kind (raw b.mask).flag) (mask_of (separators m s g (Some byte)) == 0) _ _
        (λ zero. choose (λ (kind : ReadErrorKind). IsCause m front (Some byte) kind (raw (mask_of (cases m s g byte))).flag)
        (mask_of (cases m s g byte) == 0) _ _ (λ no_cases. record {
          refused = not_allowed;
          no_separator = no_flag _ permits zero;
          no_case = no_flag _ is_case no_cases;
          none = λ f. mask_flags (cases m s g byte) f ∙ none_of (cases m s g byte) no_cases f;
        }) (λ some. as_flags (IsCause m front (Some byte) causes.Case) (cases m s g byte)
        (record { refused = not_allowed; no_separator = no_flag _ permits zero; some = some_of _ some; each = is_case })))
        (λ some. as_flags (IsCause m front (Some byte) (causes.Separator (part_of s.stage) (place_of m (part_of s.stage) s.stage s.gap (role_at m
        (part_of s.stage) byte)))) (separators m s g (Some byte)) (record { refused = not_allowed; some = some_of _ some; each = permits; at = at }))

  -- What has been read, and what refuses, decide the cause.
  is_blamed : (next : Option ℕ) → goes m s g next ≡ false → IsCause m front next (blame m s g next).kind (raw (blame m s g next).mask).flag
  is_blamed next refused = choose (λ (b : Blame). IsCause m front next b.kind (raw b.mask).flag) (goes (bare m) s g next) _ _
      (λ allowed. is_requirement m s g front read next allowed refused) (grind (arith, bare_weaker, goes_free, flag_zero, is_wrong))

  -- Only flags are to blame.
  is_mask : (next : Option ℕ) → (blame m s g next).mask ≡ sum_by (flag_bits (raw (blame m s g next).mask)) layout.flags
  is_mask next = choose (λ (b : Blame). b.mask ≡ sum_by (flag_bits (raw b.mask)) layout.flags) (goes (bare m) s g next) _ _
      (λ _. choose (λ (mask : ℕ). mask ≡ sum_by (flag_bits (raw mask)) layout.flags) (mask_of (alone m s g next) == 0 && not (some_unmet m s g next)) _ _
      (λ _. only_mask (zeros m)) (λ _. only_mask (alone m s g next))) (λ _. go next) where
        go : (next : Option ℕ) → (otherwise m s g next).mask ≡ sum_by (flag_bits (raw (otherwise m s g next).mask)) layout.flags
        go None = refl
        go (Some byte) = choose (λ (b : Blame). b.mask ≡ sum_by (flag_bits (raw b.mask)) layout.flags) (mask_of (separators m s g (Some byte)) == 0) _ _
            (λ _. only_mask (cases m s g byte)) (λ _. only_mask (separators m s g (Some byte)))

-- THE REFUSAL

module _ (g : Grammar) (text : List ℕ) (s : Summary) (separated : Bool) (tail : List ℕ) (size : ℕ) (within : size ≤ length text) where
  abbrev n : Notation
  n = notation_of g

  abbrev k : Marks
  k = marks_of n (take size text)

  abbrev spot : Option ℕ → Spot
  spot next = spot_of g (take size text) s next tail separated

  abbrev last : Group
  last = group_at (spot None)

  pub refusal_at : IsValidUpTo n text size → IsReadOf n s last (take size text) → goes n s last (slice_get text size) ≡ false
      → (next : Option ℕ) → next ≡ slice_get text size → tail ≡ tail_of text size → IsRefusal n text (refusal_of n (spot next))
  refusal_at valid read refused next is_next is_tail =
      let b = blame n s last next in
      let C = unmet n s last next in
      let set = kept C n.number in
      let has_unmet : (c : Condition) → has set c ≡ C c =
      has_kept g.conditions (λ c. goes (bare n) s last next && not (goes (requiring c (bare n)) s last next)) in
      let is_size : size ≡ k.size = sym (length-take-le size text within) in
      let same : k ≡ marks_of n (take k.size text) = λ j. marks_of n (take (is_size j) text) in
      let byte = is_next ∙ ap (slice_get text) is_size in
      record {
        valid_up_to = subst (IsValidUpTo n text) is_size valid;
        byte = byte;
        tail = is_tail ∙ ap (tail_of text) is_size;
        cause = subst (λ next. IsCause n (take k.size text) next b.kind (raw b.mask).flag) byte
            (subst (λ size. IsCause n (take size text) next b.kind (raw b.mask).flag) is_size
            (is_blamed n s last (take size text) read next (ap (goes n s last) is_next ∙ refused)));
        conditions = λ c. subst (λ next. (has set c ≡ true) ↔ IsUnmet n (take k.size text) next c) byte
            (subst (λ size. (has set c ≡ true) ↔ IsUnmet n (take size text) next c) is_size
            (subst (λ t. (t ≡ true) ↔ IsUnmet n (take size text) next c) (sym (has_unmet c)) (each_unmet n s last (take size text) read next c)));
        numbers = λ j. kept (λ c. sym (has_unmet c) j) n.number;
        mask = is_mask n s last (take size text) read next;
        shown = ap (λ k. shown n k next b.kind (lowest b.mask) (first_unmet b.mask set)) same;
      }
