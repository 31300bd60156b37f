-- What has been read without an error can be completed to a literal.
use Rattle.lexical_literal.proofs.Common.{Bool, ByteSet, Condition, HasRoles, IsFront, IsReady, List, Literal, None, Notation, Part, Reads, Role, Some, Stage}
use Rattle.lexical_literal.proofs.Common.{Summary, [], admits, after, after_digit, after_mark, after_point, and_from, and_parts, ap, arith, awaits_integer}
use Rattle.lexical_literal.proofs.Common.{cases_Bool, continues, digits_suffice, ends, false, false_from_ne_true, false≢true, gap_fits, has_digit, implies, inl}
use Rattle.lexical_literal.proofs.Common.{inr, is_accepted, is_fresh, is_led, is_negative, is_open, is_run, is_signed, lacks_prefix, leads_to_prefix, list_any}
use Rattle.lexical_literal.proofs.Common.{may_follow, may_lead, needs_exponent, no_cuts, not, or_from, part_of, refl, role_at, set_of_role, start, subst, sym}
use Rattle.lexical_literal.proofs.Common.{takes, takes_in, true, walk, ℕ, ◌&&◌, ◌++◌, ◌==◌, ◌||◌, ◌∙◌, ◌∷◌, ◌≡◌, ◌⊎◌}
use Rattle.lexical_util.specs.Layout as layout
use Rattle.lexical_util.specs.declared.feature_format.roles.Role.TheVariants as roles
use Rattle.lexical_util.specs.declared.format_flags.Part.TheVariants as parts
use Rattle.lexical_literal.specs.declared.step.Stage.TheVariants as stages
use Rattle.lexical_literal.specs.declared.syntax.Condition.TheVariants as conditions
use Rattle.lexical_literal.proofs.ConditionLemmas.{literal_from, literal_arrives}
use Rattle.lexical_literal.proofs.WalkLemmas.{Accepts, walk_none, walk_append, took, arrives_byte, as_role, digit_role, is_role}
use Rattle.lexical_literal.proofs.StepLemmas.{digit_part, mark_part, point_part, reading}

-- `CanGoOn m s` holds if a gap, where there is one, can be closed, if there is a leading zero only where one may be, and if a
-- prefix that is missing can follow.
pub record CanGoOn (m : Notation) (s : Summary) : Type 0 where
  pub closes : implies s.gap (is_open m (part_of s.stage) (has_digit s.stage) (may_follow m s.stage)) ≡ true
  pub led : implies (is_led s.stage) (may_lead m) ≡ true
  pub prefixed : implies (m.condition conditions.BasePrefix && lacks_prefix s.stage) (not (s.gap || s.ended)) ≡ true

module _ (m : Notation) where
  abbrev C : Condition → Bool
  C = m.condition

  closed : (part : Part) (digit gap next : Bool) → implies gap (is_open m part digit next) ≡ true
      → ((digit ≡ true) × (gap_fits m part digit gap false ≡ true)) ⊎ ((gap_fits m part digit gap true ≡ true) × (implies digit next ≡ true))
  closed part digit gap next is = grind arith

  -- What can go on does so after each byte that is taken.
  goes_on : (s : Summary) (plus zero : Bool) (r : Role) → CanGoOn m s → takes m s plus r ≡ true
      → implies (C conditions.BasePrefix && lacks_prefix s.stage) (leads_to_prefix s.stage zero r) ≡ true → CanGoOn m (after s zero r)
  goes_on s plus x2 x3 can is admitted = grind arith

  all_go_on : HasRoles m → (s : Summary) (text : List ℕ) (last : Summary) → CanGoOn m s → walk m (Some s) text ≡ Some last → CanGoOn m last
  all_go_on h s [] last can is = let same : s ≡ last = cc in subst (CanGoOn m) same can
  all_go_on h s (b ∷ text) last can is =
      let t = took C m s b (λ o. walk m o text ≡ Some last) (λ is. let none = sym (walk_none C m text) ∙ is in cc) is in
      all_go_on h (after s (b == 48) t.role) text last (goes_on s (b == 43) (b == 48) t.role can t.taken (and_parts _ _ t.admitted).0) t.rest

  -- WAYS TO GO ON

  -- A digit is enough for a part, and another one may follow where it is no leading zero.
  enough : (part : Part) (stage : Stage) → has_digit stage ≡ true → digits_suffice m part stage ≡ true
  enough x0 stage digit = grind arith

  behind_digit : (stage : Stage) (gap : Bool) → is_signed m (part_of stage) (after_digit stage gap true) ≡ true
  behind_digit stage gap = grind arith

  -- `Completed s` has bytes without separators that complete what has been read to a literal.
  pub record Completed (s : Summary) : Type 0 where
    pub more : List ℕ
    pub accepts : Accepts C m (Some s) more
    pub joined : list_any m.separator more ≡ false

  -- `begins A bytes` is true if the first of `bytes` is in `A`.
  abbrev pub begins : ByteSet → List ℕ → Bool
  begins A [] = false
  begins A (b ∷ bytes) = A b

  -- `Ended s` has such bytes that do not begin with a digit.
  abbrev pub Ended : Summary → Type 0
  Ended s = (c : Completed s) × (begins (m.digit (part_of s.stage)) c.more ≡ false)

  module _ (ready : IsReady m) where
    -- A byte plays no other role.
    not_in : (other : Role) (s : Summary) (b : ℕ) (r : Role) → role_at m (part_of s.stage) b ≡ Some r → (other ≡ r → ⊥) → set_of_role m other b ≡ false
    not_in other s b r role apart = false_from_ne_true _ (λ is. apart (ready.roles.one other r b is (as_role m (part_of s.stage) b r role)))

    abbrev then_byte : (s : Summary) (b : ℕ) (r : Role) → s.ended ≡ false → role_at m (part_of s.stage) b ≡ Some r → (roles.Separator ≡ r → ⊥)
        → takes m s (b == 43) r ≡ true → admits C s b r ≡ true → Completed (after s (b == 48) r) → Completed s
    then_byte s b r going role apart is admitted more = record {
      more = b ∷ more.more;
      accepts = (arrives_byte C m s b r no_cuts more.more _ going role is admitted (more.accepts, refl)).0;
      joined = or_from _ _ (not_in roles.Separator s b r role apart) more.joined;
    }

    -- One that is no digit ends a part.
    then_end : (s : Summary) (b : ℕ) (r : Role) → s.ended ≡ false → role_at m (part_of s.stage) b ≡ Some r → (roles.Separator ≡ r → ⊥)
        → (roles.Digit ≡ r → ⊥) → takes m s (b == 43) r ≡ true → admits C s b r ≡ true → Completed (after s (b == 48) r) → Ended s
    then_end s b r going role apart other is admitted more = (
      then_byte s b r going role apart is admitted more,
      false_from_ne_true _ (λ digit. let same = sym role ∙ digit_role m (part_of s.stage) b digit in other (let is : r ≡ roles.Digit = cc in sym is)),
    )

    -- `is_settled stage` is true if no prefix is missing.
    abbrev is_settled : Stage → Bool
    is_settled stage = not (C conditions.BasePrefix && lacks_prefix stage)

    -- `Finishes part` holds if a part with a digit that may end can be completed.
    abbrev Finishes : Part → Type 0
    Finishes part = (stage : Stage) (gap : Bool) → part_of stage ≡ part → is_settled stage ≡ true → has_digit stage ≡ true → ends m part stage gap ≡ true
        → implies (is_led stage) (may_lead m) ≡ true → Ended (reading stage gap)

    module _ (stage : Stage) (gap : Bool) where
      -- Where a literal may end, it does so, with the suffix if one is required.
      stopped : is_settled stage ≡ true → (part : Part) → part_of stage ≡ part → (ends m part stage gap && continues m part stage roles.Suffix) ≡ true
          → Ended (reading stage gap)
      stopped settled part at may = elim (cases_Bool (C conditions.BaseSuffix)) [
        | inl needs ↦ then_end (reading stage gap) ready.suffix roles.Suffix refl
            (is_role m (part_of stage) ready.suffix ready.roles roles.Suffix (λ e. cc) (ready.has_suffix needs)) (λ e. cc) (λ e. cc) there (grind arith)
            (record { more = []; accepts = grind arith; joined = refl })
        | inr none ↦ (record { more = []; accepts = and_from _ _ there (grind arith); joined = refl }, refl)
      ] where
        there : (ends m (part_of stage) stage gap && continues m (part_of stage) stage roles.Suffix) ≡ true
        there = subst (λ part. (ends m part stage gap && continues m part stage roles.Suffix) ≡ true) (sym at) may

      -- A digit, where one is needed.
      digit_completed : is_settled stage ≡ true → is_signed m (part_of stage) stage ≡ true → CanGoOn m (reading stage gap) → Finishes (part_of stage)
          → Completed (reading stage gap)
      digit_completed settled signed can finishes = elim (closed (part_of stage) (has_digit stage) gap (may_follow m stage) can.closes) [
        | inl here ↦ (finishes stage gap refl settled here.0 (and_from _ _ signed (and_from _ _ here.1 (enough (part_of stage) stage here.0))) can.led).0
        | inr more ↦
            then_byte (reading stage gap) 48 roles.Digit refl (digit_role m (part_of stage) 48 (ready.roles.zero_is_digit (part_of stage))) (λ e. cc)
            (and_from _ _ signed (and_from _ _ more.0 (let may = more.1 in grind arith))) (grind arith)
            ((finishes (after_digit stage gap true) false (digit_part stage gap true) (grind arith) (grind arith)
            (and_from _ _ (behind_digit stage gap) (and_from _ _ refl (enough (part_of stage) (after_digit stage gap true) (grind arith))))
            (let may = more.1 in let led = can.led in grind arith)).0)
      ]

      -- A sign first, or none where none is needed.
      signed_completed : is_fresh stage ≡ true → Completed (reading (after_mark stage) gap)
          → (is_signed m (part_of stage) stage ≡ true → Completed (reading stage gap)) → Completed (reading stage gap)
      signed_completed fresh behind unsigned = elim (cases_Bool (C conditions.NegativeSign && is_negative (part_of stage) false roles.Sign)) [
        | inl forbidden ↦ elim (cases_Bool (is_signed m (part_of stage) stage)) [
          | inl signed ↦ unsigned signed
          | inr needs ↦ then_byte (reading stage gap) 43 roles.Sign refl (is_role m (part_of stage) 43 ready.roles roles.Sign (λ e. cc) refl) (λ e. cc)
              (plus (part_of stage) forbidden needs) (grind arith) behind
        ]
        | inr may ↦ then_byte (reading stage gap) 45 roles.Sign refl (is_role m (part_of stage) 45 ready.roles roles.Sign (λ e. cc) refl) (λ e. cc)
            (and_from _ _ fresh (grind arith)) (grind arith) behind
      ] where
        plus : (part : Part) → (C conditions.NegativeSign && is_negative part false roles.Sign) ≡ true → is_signed m part stage ≡ false
            → takes_in m part stage gap true roles.Sign ≡ true
        plus part forbidden needs = grind arith

    part_completed : (stage : Stage) (gap : Bool) → is_settled stage ≡ true → CanGoOn m (reading stage gap) → Finishes (part_of stage)
        → Completed (reading stage gap)
    part_completed stage gap settled can finishes = elim (cases_Bool (is_fresh stage)) [
      | inl fresh ↦ signed_completed stage gap fresh (digit_completed (after_mark stage) gap (grind arith) (grind arith) (record {
        closes = let closes = can.closes in subst (λ part. implies gap (is_open m part (has_digit (after_mark stage)) (may_follow m
            (after_mark stage))) ≡ true) (sym (mark_part stage)) (grind arith);
        led = grind arith;
        prefixed = grind arith;
      }) (subst Finishes (sym (mark_part stage)) finishes)) (λ signed. digit_completed stage gap settled signed can finishes)
      | inr over ↦ digit_completed stage gap settled (grind arith) can finishes
    ]

    exponent_finishes : Finishes parts.Exponent
    exponent_finishes stage gap at settled digit end led = stopped stage gap settled parts.Exponent at (and_from _ true end refl)

    fraction_finishes : Finishes parts.Fraction
    fraction_finishes stage gap at settled digit end led = elim (cases_Bool (needs_exponent m)) [
      | inl needs ↦
          let agree = ready.agree in
          then_end (reading stage gap) ready.exponent roles.Exponent refl
          (is_role m (part_of stage) ready.exponent ready.roles roles.Exponent (λ e. cc) (ready.has_exponent (grind arith))) (λ e. cc) (λ e. cc)
          (subst (λ part. (ends m part stage gap && continues m part stage roles.Exponent) ≡ true) (sym at) (and_from _ _ end (grind arith))) (grind arith)
          (part_completed stages.Mark false (grind arith) (record { closes = refl; led = refl; prefixed = grind arith }) exponent_finishes)
      | inr none ↦ stopped stage gap settled parts.Fraction at (and_from _ _ end (ap not none))
    ]

    integer_finishes : Finishes parts.Integer
    integer_finishes stage gap at settled digit end led = elim (cases_Bool (m.integers_only || (is_led stage && m.flag layout.no_float_leading_zeros))) [
      | inl no_point ↦ stopped stage gap settled parts.Integer at (and_from _ _ end (grind arith))
      | inr point ↦
          then_end (reading stage gap) ready.point roles.Point refl
          (is_role m (part_of stage) ready.point ready.roles roles.Point (λ e. cc) (ready.has_point (grind arith))) (λ e. cc) (λ e. cc)
          (subst (λ part. (ends m part stage gap && continues m part stage roles.Point) ≡ true) (sym at) (and_from _ _ end (grind arith))) (grind arith)
          (part_completed (after_point (has_digit stage)) false (grind arith) (record { closes = refl; led = grind arith; prefixed = grind arith })
          (subst Finishes (sym (point_part (has_digit stage))) fraction_finishes))
    ]

    -- The prefix that is required, and a digit.
    bare_completed : C conditions.BasePrefix ≡ true → Completed (reading stages.Bare false)
    bare_completed set = then_byte (reading stages.Bare false) ready.prefix roles.Prefix refl
        (is_role m parts.Integer ready.prefix ready.roles roles.Prefix (λ e. cc) (ready.has_prefix set)) (λ e. cc) refl (grind arith)
        (digit_completed stages.Prefixed false (grind arith) refl (record { closes = refl; led = refl; prefixed = grind arith }) integer_finishes)

    zero_completed : C conditions.BasePrefix ≡ true → (stage : Stage) → awaits_integer stage ≡ true → is_signed m (part_of stage) stage ≡ true
        → Completed (reading stage false)
    zero_completed set stage begin signed =
        then_byte (reading stage false) 48 roles.Digit refl (digit_role m (part_of stage) 48 (ready.roles.zero_is_digit (part_of stage))) (λ e. cc)
        (and_from _ _ signed (and_from _ _ refl (grind arith))) (grind arith)
        (subst Completed (let is : reading stages.Bare false ≡ after (reading stage false) true roles.Digit
        = grind arith in is) (bare_completed set))

    prefix_completed : (stage : Stage) → C conditions.BasePrefix ≡ true → lacks_prefix stage ≡ true → Completed (reading stage false)
    prefix_completed stages.Bare set lacks = bare_completed set
    prefix_completed stages.Empty set lacks = zero_completed set stages.Empty refl refl
    prefix_completed stages.Start set lacks = grind (arith, signed_completed, zero_completed)
    prefix_completed _ set lacks = absurd (false≢true lacks)

    finishes_in : (part : Part) → Finishes part
    finishes_in parts.Integer = integer_finishes
    finishes_in parts.Fraction = fraction_finishes
    finishes_in parts.Exponent = exponent_finishes

    completed : (stage : Stage) (gap ended : Bool) → CanGoOn m (record { stage = stage; gap = gap; ended = ended })
        → Completed (record { stage = stage; gap = gap; ended = ended })
    completed stage gap true can = record { more = []; accepts = let is = can.prefixed in grind arith; joined = refl }
    completed stage gap false can = elim (cases_Bool (C conditions.BasePrefix && lacks_prefix stage)) [
      | inl lacks ↦
          let both = and_parts (C conditions.BasePrefix) _ lacks in
          let none : gap ≡ false = let free = can.prefixed in grind arith in
          subst (λ gap. Completed (reading stage gap)) (sym none) (prefix_completed stage both.0 both.1)
      | inr settled ↦ part_completed stage gap (ap not settled) can (finishes_in (part_of stage))
    ]

    module _ (text : List ℕ) (s : Summary) (is : walk m (Some start) text ≡ Some s) where
      pub goes_on_there : CanGoOn m s
      goes_on_there = all_go_on ready.roles start text s (record { closes = refl; led = refl; prefixed = grind arith }) is

      pub completed_there : Completed s
      completed_there = completed s.stage s.gap s.ended goes_on_there

      -- What has been read and is completed is a literal.
      pub literal_there : (more : List ℕ) → Accepts C m (Some s) more → (l : Literal) × Reads m l (text ++ more)
      literal_there more accepts = literal_from m ready.roles ready.no_sizes (text ++ more) (rw (walk_append C m (Some start) text more, is) accepts)

      -- What has been read is a front of a literal.
      pub front_from : IsFront m text
      front_from = grind (arith, literal_there, completed_there)

      -- Digits of a run may end there.
      pub ended_there : s.ended ≡ false → s.gap ≡ false → is_run s.stage ≡ true → Ended s
      ended_there going closed run =
          let digit : has_digit s.stage ≡ true = grind arith in
          subst Ended (λ j. record { stage = s.stage; gap = sym closed j; ended = sym going j })
          (finishes_in (part_of s.stage) s.stage false refl (grind arith) digit
          (and_from _ _ (grind arith) (and_from _ _ refl (enough (part_of s.stage) s.stage digit))) goes_on_there.led)

    -- A front of a literal is read.
    pub front_is_read : (text : List ℕ) → IsFront m text → walk m (Some start) text ≡ None → ⊥
    front_is_read text is none = false≢true (
        sym (ap (is_accepted m) (walk_append C m (Some start) text is.more ∙ ap (λ o. walk m o is.more) none ∙ walk_none C m is.more))
        ∙ ap (λ t. is_accepted m (walk m (Some start) t)) is.reads.whole ∙ (literal_arrives m ready.roles is.literal is.reads.literal).0)
