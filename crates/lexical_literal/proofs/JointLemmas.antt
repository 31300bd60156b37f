-- Which flags refuse what is allowed without requirements: flags that refuse alone, or those on leading zeros.
use Rattle.lexical_literal.proofs.Common.{Bool, Condition, Flag, None, Notation, Option, Part, Role, Some, Stage, Summary, adding, admits, and_from, and_parts}
use Rattle.lexical_literal.proofs.Common.{ap, arith, bare, binds, complete_by, continues, ends, false, false≢true, finishes, gap_fits, has_size, implies, is_at}
use Rattle.lexical_literal.proofs.Common.{is_one_of, is_open, is_same, is_separator, is_signed, is_some, lets, may_follow, move_by, no_condition, not}
use Rattle.lexical_literal.proofs.Common.{number_separator_flags, part_of, place_of, refl, role_at, subst, sym, takes_in, true, unsized, with_rules, ℕ, ◌&&◌}
use Rattle.lexical_literal.proofs.Common.{◌==◌, ◌||◌, ◌∙◌, ◌≡◌}
use Rattle.lexical_util.specs.Layout as layout
use Rattle.lexical_util.specs.declared.feature_format.roles.Role.TheVariants as roles
use Rattle.lexical_util.specs.declared.format_flags.Part.TheVariants as parts
use Rattle.lexical_literal.specs.declared.step.Stage.TheVariants as stages
use Rattle.lexical_literal.specs.declared.syntax.Condition.TheVariants as conditions
use Rattle.lexical_literal.proofs.RefusalLemmas.{KeepsPlaces}

-- ROLES

-- `taken n part stage gap plus role` is true if a byte with the role `role` may follow, if it has one.
abbrev taken : Notation → Part → Stage → Bool → Bool → Option Role → Bool
taken n part stage gap plus None = false
taken n part stage gap plus (Some role) = takes_in n part stage gap plus role

abbrev passes_role : (Condition → Bool) → Summary → ℕ → Option Role → Bool
passes_role C s byte None = true
passes_role C s byte (Some role) = admits C s byte role

split_role : (n : Notation) (s : Summary) (b : ℕ) (o : Option Role)
    → is_some (move_by n.condition n s b o) ≡ (is_some (move_by no_condition n s b o) && passes_role n.condition s b o)
split_role n s b o = grind arith

moved : (n : Notation) (s : Summary) (ended : Bool) (b : ℕ) (o : Option Role)
    → is_some (move_by no_condition n (record s { ended = ended }) b o) ≡ (not ended && taken n (part_of s.stage) s.stage s.gap (b == 43) o)
moved n s ended b x4 = grind arith

module _ (m : Notation) where
  -- `role_of_next s next` is the role of the byte `next` after `s`, or that of a suffix, where `next` is `None`.
  abbrev role_of_next : Summary → Option ℕ → Option Role
  role_of_next s None = Some roles.Suffix
  role_of_next s (Some byte) = role_at m (part_of s.stage) byte

  abbrev is_plus_next : Option ℕ → Bool
  is_plus_next None = false
  is_plus_next (Some byte) = byte == 43

  -- `free_allows n s next` is true if `next` may follow without conditions, and `passes C s next` if the conditions `C` let it.
  -- The notation `n` has the roles of `m`.
  abbrev pub free_allows : Notation → Summary → Option ℕ → Bool
  free_allows n s None = complete_by no_condition n s
  free_allows n s (Some byte) = is_some (move_by no_condition n s byte (role_at m (part_of s.stage) byte))

  abbrev pub passes : (Condition → Bool) → Summary → Option ℕ → Bool
  passes C s None = finishes C s
  passes C s (Some byte) = passes_role C s byte (role_at m (part_of s.stage) byte)

  -- What is allowed is what the flags and the conditions let.
  pub split : (A : Flag → Bool) (D : Condition → Bool) (s : Summary) (next : Option ℕ)
      → lets (with_rules m A D) s next ≡ (free_allows (with_rules m A D) s next && passes D s next)
  split A D s None =
      both (s.ended || (ends (with_rules m A D) (part_of s.stage) s.stage s.gap && continues (with_rules m A D) (part_of s.stage) s.stage roles.Suffix))
      (finishes D s) where
        both : (x f : Bool) → (x && f) ≡ ((x && true) && f)
        both x f = grind arith
  split A D s (Some byte) = split_role (with_rules m A D) s byte (role_at m (part_of s.stage) byte)

  pub free_is : (A : Flag → Bool) (s : Summary) (next : Option ℕ) → lets (with_rules m A no_condition) s next ≡ free_allows (with_rules m A no_condition) s next
  free_is A s next = split A no_condition s next ∙ (let pass : passes no_condition s next ≡ true = grind arith in grind arith)

  implied : (c x y : Bool) → (c ≡ true → implies x y ≡ true) → implies (c && x) y ≡ true
  implied false x y each = refl
  implied true x y each = each refl

  denied : (c x : Bool) → (c ≡ true → not x ≡ true) → not (c && x) ≡ true
  denied false x each = refl
  denied true x each = each refl

  -- What one condition refuses, with others it is refused too.
  pub each_passes : (C : Condition → Bool) (s : Summary) (next : Option ℕ)
      → ((c : Condition) → C c ≡ true → passes (λ d. is_same c d || false) s next ≡ true) → passes C s next ≡ true
  each_passes C s None each = grind arith
  each_passes C s (Some byte) each = go (role_at m (part_of s.stage) byte) (λ c. each c) where
    go : (o : Option Role) → ((c : Condition) → C c ≡ true → passes_role (λ d. is_same c d || false) s byte o ≡ true) → passes_role C s byte o ≡ true
    go None each = refl
    go (Some role) each = and_from _ _ (implied (C conditions.BasePrefix) _ _ (λ set. (and_parts _ _ (each conditions.BasePrefix set)).0))
        (and_from _ _ (denied (C conditions.NegativeSign) _ (λ set. (and_parts _ _ (each conditions.NegativeSign set)).0))
        (and_from _ _ (implied (C conditions.LeadingZero) _ _ (λ set. (and_parts _ true (each conditions.LeadingZero set)).0))
        (implied (C conditions.DecimalFirstDigit) _ _ (λ set. each conditions.DecimalFirstDigit set))))

  -- What is allowed without conditions is a question of roles, before a suffix.
  allows_is : (n : Notation) (s : Summary) (next : Option ℕ) → s.ended ≡ false
      → free_allows n s next ≡ taken n (part_of s.stage) s.stage s.gap (is_plus_next next) (role_of_next s next)
  allows_is n s None going = grind arith
  allows_is n s (Some byte) going = moved n s s.ended byte (role_at m (part_of s.stage) byte)
      ∙ ap (λ e. not e && taken n (part_of s.stage) s.stage s.gap (byte == 43) (role_at m (part_of s.stage) byte)) going

  -- FLAGS THAT REFUSE TOGETHER

  -- `Alone P` holds if `P` is true of `m` with each requirement that binds, as the only one.
  pub record Alone (P : Notation → Bool) : Type 0 where
    pub each : (f : Flag) → binds m f ≡ true → P (adding f (bare m)) ≡ true

  met : {P : Notation → Bool} → Alone P → (f : Flag) → implies (binds m f) (P (adding f (bare m))) ≡ true
  met a f = let each = a.each f in grind arith

  -- `is_digits role` is true if a byte with the role `role` is of digits.
  abbrev is_digits : Role → Bool
  is_digits roles.Digit = true
  is_digits roles.Separator = true
  is_digits _ = false

  -- `leads` is true if a flag on leading zeros binds.
  abbrev pub leads : Bool
  leads = m.flag layout.no_float_leading_zeros || (m.flag layout.no_integer_leading_zeros && m.integers_only)

  abbrev u : Notation
  u = unsized m

  -- What is allowed without requirements but the sizes in `C`, of which one is on `part` if `m` has one, and with each flag alone.
  module _ (C : Condition → Bool) where
    abbrev pub sizing : Notation
    sizing = with_rules m (bare m).flag C

    abbrev b : Notation
    b = unsized sizing

    abbrev Kept : Part → Type 0
    Kept part = KeepsPlaces b u.flag no_condition part

    kept_gap : (part : Part) → Kept part → (digit gap next : Bool) → gap_fits b part digit gap next ≡ true → gap_fits u part digit gap next ≡ true
    kept_gap part kept digit gap next is = grind arith

    -- Gaps aside, the flags refuse no byte but those of digits together.
    whole_role : (part : Part) (stage : Stage) (plus : Bool) (role : Role) → Alone (λ n. takes_in n part stage false plus role) → is_digits role ≡ false
        → takes_in b part stage false plus role ≡ true → takes_in u part stage false plus role ≡ true
    whole_role parts.Exponent stage plus roles.Sign a other free = let forbidden = met a layout.no_positive_exponent_sign in grind arith
    whole_role _ stage plus roles.Sign a other free = let forbidden = met a layout.no_positive_mantissa_sign in grind arith
    whole_role parts.Integer stages.Start plus role a other free = grind arith
    whole_role parts.Integer _ plus role a other free = grind arith
    whole_role parts.Fraction stages.Lone plus role a other free = grind arith
    whole_role parts.Fraction _ plus role a other free = grind arith
    whole_role parts.Exponent stage plus role a other free = grind arith

    drop_gap : (n : Notation) (part : Part) (stage : Stage) (gap plus : Bool) (role : Role) → is_digits role ≡ false
        → takes_in n part stage gap plus role ≡ true → takes_in n part stage false plus role ≡ true
    drop_gap n part stage gap plus role other is = grind arith

    closed : (part : Part) → Kept part → (stage : Stage) (gap plus : Bool) (role : Role) → is_digits role ≡ false
        → takes_in b part stage gap plus role ≡ true → takes_in u part stage false plus role ≡ true → takes_in u part stage gap plus role ≡ true
    closed part kept stage gap plus role other free whole = grind (arith, false≢true, and_parts)

    open_kept : (part : Part) → Kept part → (digit next : Bool) → is_open b part digit next ≡ true → is_open u part digit true ≡ true
    open_kept part kept digit next is = grind arith

    shut : (part : Part) → Kept part → (stage : Stage) (gap plus : Bool) (role : Role) → is_digits role ≡ true
        → is_signed u part stage ≡ true → takes_in b part stage gap plus role ≡ true → takes_in u part stage gap plus role ≡ false → may_follow u stage ≡ false
    shut part kept stage gap plus x5 is sign free refused = grind (arith, kept_gap, and_parts, open_kept)

    joint_role : (part : Part) → Kept part → (stage : Stage) (gap plus : Bool) (o : Option Role) → Alone (λ n. taken n part stage gap plus o)
        → taken b part stage gap plus o ≡ true → taken u part stage gap plus o ≡ false → leads ≡ true
    joint_role part kept stage gap plus x5 a free refused = grind (arith, shut, closed, whole_role, drop_gap)

  -- SEPARATORS

  at_role : (f : Flag) (part : Part) (stage : Stage) (gap plus : Bool) (o : Option Role) → is_one_of number_separator_flags f ≡ true
      → taken (bare m) part stage gap plus o ≡ false → taken (adding f (bare m)) part stage gap plus o ≡ true
      → ((gap || is_separator o) && is_at (place_of m part stage gap o) part f) ≡ true
  at_role f part stage gap plus None is refused allowed = absurd (false≢true allowed)
  at_role layout.required_integer_digits part stage gap plus (Some role) is refused allowed = grind arith
  at_role _ part stage gap plus (Some role) is refused allowed = grind arith

  -- THE SAME OF WHAT IS ALLOWED

  -- What is allowed by one notation, and refused by another, follows no suffix.
  pub going : (n k : Notation) (s : Summary) (next : Option ℕ) → free_allows n s next ≡ true → free_allows k s next ≡ false → s.ended ≡ false
  going n k s x3 free refused = grind arith

  module _ (s : Summary) (next : Option ℕ) (unended : s.ended ≡ false) where
    abbrev o : Option Role
    o = role_of_next s next

    same : ◌≡◌ {A = Notation → Bool} (λ n. taken n (part_of s.stage) s.stage s.gap (is_plus_next next) o) (λ n. free_allows n s next)
    same = λ j n. sym (allows_is n s next unended) j

    -- What no flag refuses alone, a flag on leading zeros refuses with another flag, or where groups have sizes.
    pub joint : (C : Condition → Bool) → has_size (sizing C) (part_of s.stage) ≡ has_size m (part_of s.stage) → Alone (λ n. free_allows n s next)
        → free_allows (b C) s next ≡ true → free_allows u s next ≡ false → leads ≡ true
    joint C sized = subst (λ P. Alone P → P (b C) ≡ true → P u ≡ false → leads ≡ true) same
        (joint_role C (part_of s.stage) (grind arith) s.stage s.gap (is_plus_next next) o)

  -- A flag that allows the byte is of the place and the part.
  pub at_next : (f : Flag) (s : Summary) (byte : ℕ) → is_one_of number_separator_flags f ≡ true → free_allows (bare m) s (Some byte) ≡ false
      → free_allows (adding f (bare m)) s (Some byte) ≡ true
      → ((s.gap || is_separator (role_at m (part_of s.stage) byte)) && is_at (place_of m (part_of s.stage) s.stage s.gap (role_at m (part_of s.stage) byte))
      (part_of s.stage) f) ≡ true
  at_next f s byte is refused allowed = subst (λ (P : Notation → Bool). P (bare m) ≡ false → P (adding f (bare m)) ≡ true
      → ((s.gap || is_separator (role_at m (part_of s.stage) byte)) && is_at (place_of m (part_of s.stage) s.stage s.gap (role_at m (part_of s.stage) byte))
      (part_of s.stage) f) ≡ true) (same s (Some byte) (let is = sym (moved (adding f (bare m)) s s.ended byte (role_at m (part_of s.stage) byte))
      ∙ allowed in grind arith)) (at_role f (part_of s.stage) s.stage s.gap (byte == 43) (role_at m (part_of s.stage) byte) is) refused allowed
