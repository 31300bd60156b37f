-- The literals of a notation with sizes of groups are those without, whose groups fit, at once or byte by byte.
use Rattle.lexical_literal.proofs.Common.{AllIn, Bool, Flag, Group, HasRoles, HasSizes, IsSpelled, IsTrue, List, Literal, None, Notation, Option, Part, Reads}
use Rattle.lexical_literal.proofs.Common.{Role, Some, [], and_parts, ap, arith, cases_Bool, drop, drop_more, eqb-true, false, false≢true, first_group, follows}
use Rattle.lexical_literal.proofs.Common.{get_or, get_or-take, group_after, group_allows, grow, grown, has_size, has_sizes, if◌then◌else◌, inl, inr, is_absent}
use Rattle.lexical_literal.proofs.Common.{is_grouped, is_idle, is_none_or_one, is_none_or_prefix, is_one_of, length, length-take-le, next_part, not, or_left}
use Rattle.lexical_literal.proofs.Common.{or_right, refl, requirement_flags, role_at, run_byte, separators_in, signs, subst, sym, take, text_of, true, unsized}
use Rattle.lexical_literal.proofs.Common.{ℕ, ◌&&◌, ◌++◌, ◌+◌, ◌<◌, ◌==◌, ◌||◌, ◌∙◌, ◌∷◌, ◌≡◌, ◌≤◌}
use Rattle.lexical_literal.specs.Run.{is_run}
use Rattle.lexical_util.specs.declared.feature_format.roles.Role.TheVariants as roles
use Rattle.lexical_util.specs.declared.format_flags.Part.TheVariants as parts
use Rattle.lexical_literal.proofs.GroupLemmas.{group, grouped_is, one_role, run_fits, tighter}
use Rattle.lexical_literal.proofs.PartLemmas.{parts_have_roles}
use Rattle.lexical_literal.proofs.RefusalLemmas.{KeepsPlaces, all_fit, spelled_too}
use Rattle.lexical_literal.proofs.RunLemmas.{rest_of_none}
use Rattle.lexical_literal.proofs.WalkLemmas.{digit_role, is_role}
use Rattle.lexical_literal.proofs.StepLemmas.{text_after}

and_true : (t : Bool) → (t && true) ≡ t
and_true x0 = grind arith

module _ (m : Notation) where
  pub group_none : (text : List ℕ) → group_after m None text ≡ None
  group_none [] = refl
  group_none (b ∷ text) = refl

  pub group_append : (o : Option Group) (x y : List ℕ) → group_after m o (x ++ y) ≡ group_after m (group_after m o x) y
  group_append o [] y = refl
  group_append None (b ∷ x) y = sym (group_none y)
  group_append (Some g) (b ∷ x) y = group_append (grow m g (role_at m g.part b)) x y

  -- One byte of a front.
  pub group_step : (text : List ℕ) (size index : ℕ) (g : Group) → index < size → size ≤ length text → group_after m (Some g) (drop index (take size text))
      ≡ group_after m (grow m g (role_at m g.part (get_or text index 0))) (drop (index + 1) (take size text))
  group_step text size index g inside within =
      rw (drop_more (take size text) index 0 (omega (arith, length-take-le size text within, inside)), get_or-take size text index 0 inside) refl

  -- A group has no more digits than bytes have been read.
  pub grown_small : (g next : Group) (r : Option Role) → grow m g r ≡ Some next → next.digits ≤ g.digits + 1
  grown_small g next r is = grind arith

  pub small_after : (g last : Group) (text : List ℕ) → group_after m (Some g) text ≡ Some last → last.digits ≤ g.digits + length text
  small_after g last [] is = let same : g ≡ last = cc in subst (λ (x : Group). x.digits ≤ g.digits + 0) same (omega arith)
  small_after g last (b ∷ text) is = go (grow m g (role_at m g.part b)) (λ next. grown_small g next (role_at m g.part b))
      (λ next. small_after next last text) is where
        go : (o : Option Group) → ((next : Group) → o ≡ Some next → next.digits ≤ g.digits + 1)
            → ((next : Group) → group_after m (Some next) text ≡ Some last → last.digits ≤ next.digits + length text)
            → group_after m o text ≡ Some last → last.digits ≤ g.digits + length (b ∷ text)
        go None low more is = absurd (let none = group_none text in cc)
        go (Some next) low more is = omega (arith, low next refl, more next is)

  -- `ends o` is true if what has been read, with the last group `o`, may end.
  abbrev pub ends : Option Group → Bool
  ends None = false
  ends (Some g) = group_allows m g None

  -- Without sizes, each text fits.
  pub all_end : has_sizes m ≡ false → (g : Group) (text : List ℕ) → group_after m (Some g) text ≡ Some g
  all_end none g [] = refl
  all_end none g (b ∷ text) = rw (none) (all_end none g text)

  -- `part_fits part separated digits run` is true if the groups of `run` fit.
  abbrev part_fits : Part → Bool → ℕ → List ℕ → Bool
  part_fits part separated digits run = not (has_size m part) || run_fits m (group part separated digits) run

  module _ (h : HasRoles m) (sized : has_sizes m ≡ true) where
    abbrev at : Part → Bool → ℕ → List ℕ → Bool
    at part separated digits text = ends (group_after m (Some (group part separated digits)) text)

    -- `Closes part rest fit` holds if `rest` ends the digits of `part`, and what follows them fits if `fit` is true.
    abbrev Closes : Part → List ℕ → Bool → Type 0
    Closes part rest fit = (separated : Bool) (digits : ℕ) → at part separated digits rest ≡ (group_allows m (group part separated digits) None && fit)

    byte_after : (part : Part) (separated : Bool) (digits b : ℕ) (text : List ℕ) (r : Role) → role_at m part b ≡ Some r → at part separated digits (b ∷ text)
        ≡ ends (group_after m (if group_allows m (group part separated digits) (Some r)
        then Some (grown (group part separated digits) (Some r)) else None) text)
    byte_after part separated digits b text r plays = rw (sized, plays) refl

    chosen : (t : Bool) (g : Group) (text : List ℕ) → ends (group_after m (if t then Some g else None) text) ≡ (t && ends (group_after m (Some g) text))
    chosen x0 g text = grind (arith, group_none)

    -- A byte that is no digit and no separator ends a part.
    closes : (part : Part) (b : ℕ) (text : List ℕ) (r : Role) → (roles.Digit ≡ r → ⊥) → (roles.Separator ≡ r → ⊥) → role_at m part b ≡ Some r
        → Closes part (b ∷ text) (at (next_part part (Some r)) false 0 text)
    closes part b text r other apart plays = grind (arith, chosen)

    nothing : (part : Part) → Closes part [] true
    nothing part separated digits = sym (and_true (group_allows m (group part separated digits) None))

    -- The digits of a part, and what ends them.
    run_at : (part : Part) (separated : Bool) (digits : ℕ) (run rest : List ℕ) (fit : Bool) → AllIn (run_byte m part) run → Closes part rest fit
        → at part separated digits (run ++ rest) ≡ (part_fits part separated digits run && fit)
    run_at part separated digits [] rest fit all closed = closed separated digits
    run_at part separated digits (b ∷ run) rest fit all closed = elim (cases_Bool (m.digit part b)) [
      | inl digit ↦
          let no = one_role m h part b digit in
          byte_after part separated digits b (run ++ rest) roles.Digit (digit_role m part b digit)
          ∙ chosen (group_allows m (group part separated digits) (Some roles.Digit)) (group part separated (digits + 1)) (run ++ rest)
          ∙ ap (λ t. group_allows m (group part separated digits) (Some roles.Digit) && t) (run_at part separated (digits + 1) run rest fit all.1 closed)
          ∙ rw (no) (both (has_size m part) (follows m (group part separated digits) (Some roles.Digit))
          (run_fits m (group part separated (digits + 1)) run) fit)
      | inr other ↦
          let is : m.separator b ≡ true = let one = all.0 in grind arith in
          byte_after part separated digits b (run ++ rest) roles.Separator (is_role m part b h roles.Separator (λ e. cc) is)
          ∙ chosen (group_allows m (group part separated digits) (Some roles.Separator)) (group part true 0) (run ++ rest)
          ∙ ap (λ t. group_allows m (group part separated digits) (Some roles.Separator) && t) (run_at part true 0 run rest fit all.1 closed)
          ∙ rw (is) (both (has_size m part) (follows m (group part separated digits) (Some roles.Separator)) (run_fits m (group part true 0) run) fit)
    ] where
      both : (size a b fit : Bool) → ((not size || a) && ((not size || b) && fit)) ≡ ((not size || (a && b)) && fit)
      both true true b fit = refl
      both true false b fit = refl
      both false a b fit = refl

    -- A part without a separator may end.
    free_end : (part : Part) → group_allows m (group part false 0) None ≡ true
    free_end part = or_right (not (has_size m part)) true refl

    sign_at : (part : Part) (sign rest : List ℕ) → is_none_or_one signs sign ≡ true → at part false 0 (sign ++ rest) ≡ at part false 0 rest
    sign_at part [] rest one = refl
    sign_at part (b ∷ []) rest one =
        closes part b rest roles.Sign (λ e. cc) (λ e. cc) (is_role m part b h roles.Sign (λ e. cc) one) false 0 ∙ rw (free_end part) refl
    sign_at part (b ∷ x ∷ sign) rest one = absurd (false≢true one)

    suffix_closes : (part : Part) (suffix : List ℕ) → is_none_or_one m.suffix suffix ≡ true → Closes part suffix true
    suffix_closes part [] one = nothing part
    suffix_closes part (b ∷ []) one = subst (Closes part (b ∷ [])) (free_end part)
        (closes part b [] roles.Suffix (λ e. cc) (λ e. cc) (is_role m part b h roles.Suffix (λ e. cc) one))
    suffix_closes part (b ∷ x ∷ suffix) one = absurd (false≢true one)

    module _ (l : Literal) (is : IsSpelled m l) where
      power : at parts.Exponent false 0 (l.exponent_sign ++ (l.exponent ++ l.suffix)) ≡ true
      power = sign_at parts.Exponent l.exponent_sign (l.exponent ++ l.suffix) is.exponent_sign
          ∙ run_at parts.Exponent false 0 l.exponent l.suffix true (parts_have_roles m l is).exponent (suffix_closes parts.Exponent l.suffix is.suffix)

      tail_closes : (part : Part) → Closes part (text_after parts.Fraction l) true
      tail_closes part = go l.exponent_character refl is.exponent_character where
        go : (character : List ℕ) → l.exponent_character ≡ character → is_none_or_one m.exponent_character character ≡ true
            → Closes part (character ++ (l.exponent_sign ++ (l.exponent ++ l.suffix))) true
        go [] none one =
            let absent = is.after_character (ap is_absent none) in
            rw (absent.0, absent.1) (suffix_closes part l.suffix is.suffix)
        go (b ∷ []) some one = subst (Closes part (b ∷ (l.exponent_sign ++ (l.exponent ++ l.suffix)))) power
            (closes part b (l.exponent_sign ++ (l.exponent ++ l.suffix)) roles.Exponent (λ e. cc) (λ e. cc) (is_role m part b h roles.Exponent (λ e. cc) one))
        go (b ∷ x ∷ character) some one = absurd (false≢true one)

      mantissa_closes : Closes parts.Integer (text_after parts.Integer l) (part_fits parts.Fraction false 0 l.fraction)
      mantissa_closes = go l.point refl is.point where
        go : (point : List ℕ) → l.point ≡ point → is_none_or_one m.point point ≡ true
            → Closes parts.Integer (point ++ (l.fraction ++ text_after parts.Fraction l)) (part_fits parts.Fraction false 0 l.fraction)
        go [] none one =
            let absent = is.after_point (ap is_absent none) in
            rw (absent) (subst (Closes parts.Integer (text_after parts.Fraction l)) (sym (free_end parts.Fraction)) (tail_closes parts.Integer))
        go (b ∷ []) some one = subst (Closes parts.Integer (b ∷ (l.fraction ++ text_after parts.Fraction l)))
            (run_at parts.Fraction false 0 l.fraction (text_after parts.Fraction l) true (parts_have_roles m l is).fraction (tail_closes parts.Fraction)
            ∙ and_true _) (closes parts.Integer b (l.fraction ++ text_after parts.Fraction l) roles.Point (λ e. cc) (λ e. cc)
            (is_role m parts.Integer b h roles.Point (λ e. cc) one))
        go (b ∷ x ∷ point) some one = absurd (false≢true one)

      prefix_at : (prefix rest : List ℕ) → is_none_or_prefix m.prefix prefix ≡ true → at parts.Integer false 0 (prefix ++ rest) ≡ at parts.Integer false 0 rest
      prefix_at [] rest one = refl
      prefix_at (z ∷ b ∷ []) rest one =
          let two = and_parts (z == 48) _ one in
          ap (λ z. at parts.Integer false 0 (z ∷ b ∷ rest)) (eqb-true z 48 two.0)
          ∙ byte_after parts.Integer false 0 48 (b ∷ rest) roles.Digit (digit_role m parts.Integer 48 (h.zero_is_digit parts.Integer))
          ∙ chosen _ (group parts.Integer false 1) (b ∷ rest) ∙ rw (free_end parts.Integer) (closes parts.Integer b rest roles.Prefix (λ e. cc) (λ e. cc)
          (is_role m parts.Integer b h roles.Prefix (λ e. cc) two.1) false 1 ∙ rw (free_end parts.Integer) refl)
      prefix_at _ rest one = absurd (false≢true one)

      -- The groups of a literal fit byte by byte if those of its integer and its fraction do.
      literal_fits : at parts.Integer false 0 (text_of l) ≡ (part_fits parts.Integer false 0 l.integer && part_fits parts.Fraction false 0 l.fraction)
      literal_fits = grind (arith, sign_at, prefix_at, run_at, parts_have_roles, mantissa_closes)

  -- LITERALS WITH AND WITHOUT SIZES

  abbrev u : Notation
  u = unsized m

  pub kept_flag : (f : Flag) → IsTrue (u.flag f) → IsTrue (m.flag f)
  kept_flag f is = (and_parts (not (is_idle m f)) (m.flag f) is).1

  pub required : (f : Flag) → IsTrue (m.flag f && is_one_of requirement_flags f) → IsTrue (u.flag f)
  required f is = grind arith

  as_spelled : (l : Literal) → IsSpelled u l → IsSpelled m l
  as_spelled = spelled_too u m.flag m.condition required (λ f set. or_left _ _ (kept_flag f set))

  pub some_size : (part : Part) → has_size m part ≡ true → has_sizes m ≡ true
  some_size x0 is = grind arith

  keeps : (part : Part) → has_size m part ≡ false → KeepsPlaces m u.flag u.condition part
  keeps x0 none = grind arith

  pub same_internal : (part : Part) → m.flag (separators_in part).internal ≡ true → u.flag (separators_in part).internal ≡ true
  same_internal x0 is = grind arith

  module _ (h : HasRoles m) (sizes : HasSizes m) where
    run_too : (part : Part) (run : List ℕ) → part_fits part false 0 run ≡ true → is_run m part run ≡ true → is_run u part run ≡ true
    run_too part run fit is = elim (cases_Bool (has_size m part)) [
      | inl sized ↦ sym (rest_of_none u part run) ∙ tighter m h part sizes (some_size part sized) u.flag u.condition (same_internal part) false 0 run
          (rw (sized) at fit) (rest_of_none m part run ∙ is)
      | inr none ↦ all_fit m u.flag u.condition part (keeps part none) [] run is
    ]

    -- The groups of a literal fit if its integer is grouped.
    literal_ends : (l : Literal) → IsSpelled m l → ends (group_after m (Some first_group) (text_of l)) ≡ (not (has_sizes m) || is_grouped m l.integer)
    literal_ends l is = grind (arith, literal_fits, all_end, grouped_is, and_true)

    pub as_unsized : (l : Literal) (text : List ℕ) → Reads m l text → Reads u l text × (ends (group_after m (Some first_group) text) ≡ true)
    as_unsized l text is = grind (arith, grouped_is, run_too, literal_ends)

    pub as_sized : (l : Literal) (text : List ℕ) → Reads u l text → ends (group_after m (Some first_group) text) ≡ true → Reads m l text
    as_sized l text is end = grind (arith, as_spelled, literal_ends)

    -- A literal whose integer is grouped may end.
    pub may_end : (l : Literal) (text : List ℕ) → Reads u l text → is_grouped m l.integer ≡ true
        → (g : Group) × (group_after m (Some first_group) text ≡ Some g) × (group_allows m g None ≡ true)
    may_end l text is fit = some (group_after m (Some first_group) text) (grind (arith, as_spelled, literal_ends)) where
      some : (o : Option Group) → ends o ≡ true → (g : Group) × (o ≡ Some g) × (group_allows m g None ≡ true)
      some None is = absurd (false≢true is)
      some (Some g) is = (g, refl, is)
