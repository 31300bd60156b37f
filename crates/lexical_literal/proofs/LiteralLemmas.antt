-- The texts that are accepted are spelled as literals are.
use Rattle.lexical_literal.proofs.Common.{Bool, ByteSet, Condition, Cuts, Flag, HasRoles, IsSpelled, List, Literal, Notation, Part, Piece, Some, Stage, [], add}
use Rattle.lexical_literal.proofs.Common.{after_digit, after_mark, after_point, and_from, and_parts, and_right, arith, cases_Bool, continues, digits_piece}
use Rattle.lexical_literal.proofs.Common.{digits_suffice, ends, eqb-true, false, false≢true, forbids_plus, gap_fits, has_digit, if◌then◌else◌, implies, inl}
use Rattle.lexical_literal.proofs.Common.{inr, is_absent, is_led, is_lone, is_none_or_one, is_none_or_prefix, is_present, is_signed, is_zero_led, list_any}
use Rattle.lexical_literal.proofs.Common.{may_follow, may_lead, no_condition, no_cuts, not, or_left, or_right, part_of, piece_of, refl, start, subst, sym}
use Rattle.lexical_literal.proofs.Common.{text_of, true, with_prefix, ℕ, ◌&&◌, ◌++◌, ◌==◌, ◌||◌, ◌∙◌, ◌∷◌, ◌≡◌}
use Rattle.lexical_literal.specs.Run.{is_run}
use Rattle.lexical_util.specs.Layout as layout
use Rattle.lexical_util.specs.declared.feature_format.roles.Role.TheVariants as roles
use Rattle.lexical_util.specs.declared.format_flags.Part.TheVariants as parts
use Rattle.lexical_literal.specs.declared.step.Piece.TheVariants as pieces
use Rattle.lexical_literal.specs.declared.step.Stage.TheVariants as stages
use Rattle.lexical_literal.proofs.RunLemmas.{is_rest, rest_of_none, digits_present, opens}
use Rattle.lexical_literal.proofs.WalkLemmas.{Accepts, Arrives, add_all, added, free_byte, digit_role, is_role}
use Rattle.lexical_literal.proofs.StepLemmas.{reading, digit_part, exponent_part, integer_part, mark_part, point_part, run_part, led_after, stage_after, passed}
use Rattle.lexical_literal.proofs.StepLemmas.{stage_at, sign_fits, prefix_fits, digits_fit, ends_exponent, ends_mantissa, fraction_fits, stops, scales}
use Rattle.lexical_literal.proofs.StepLemmas.{ends_part, text_after}
use Rattle.lexical_literal.proofs.CutLemmas.{cut_of}

-- `tail_cuts l c` counts the parts of `l` behind the mantissa, begun with `c`, and `all_cuts l` all its parts.
abbrev tail_cuts : Literal → Cuts → Cuts
tail_cuts l c = add_all (add_all (add_all (add_all c pieces.ExponentCharacter l.exponent_character) pieces.ExponentSign l.exponent_sign)
    pieces.Exponent l.exponent) pieces.Suffix l.suffix

abbrev end_cuts : Literal → Cuts → Cuts
end_cuts l c = tail_cuts l (add_all (add_all c pieces.Point l.point) pieces.Fraction l.fraction)

abbrev pub all_cuts : Literal → Cuts
all_cuts l = end_cuts l (add_all (add_all (add_all no_cuts pieces.Sign l.sign) pieces.Prefix l.prefix) pieces.Integer l.integer)

-- What the parts behind the mantissa satisfy, said of plain variables: `k`, `s` and `e` tell whether the exponent character, its
-- sign and the exponent are absent.
module _ (k one_k s one_s plus e fits_e one_x no_plus sign_required digits_required : Bool) where
  record TailFacts (stops scales : Bool) : Type 0 where
    character : one_k ≡ true
    sign : one_s ≡ true
    exponent : fits_e ≡ true
    suffix : one_x ≡ true
    sign_after : implies k s ≡ true
    exponent_after : implies k e ≡ true
    digits : implies digits_required (k || not e) ≡ true
    no_plus_sign : implies no_plus (not plus) ≡ true
    signed : implies sign_required (k || not s) ≡ true
    stop : implies k stops ≡ true
    scale : implies (not k) scales ≡ true

  abbrev tail_fits : Bool → Bool → Bool → Bool
  tail_fits stop scale digit = one_k && (if k then stop && ((s && e) && one_x)
      else scale && ((one_s && (implies no_plus (not plus) && (if s then not sign_required else true)))
      && (fits_e && (implies digits_required digit && one_x))))

  module _ (stop scale digit : Bool) where
    tail_if : digit ≡ not e → TailFacts stop scale → tail_fits stop scale digit ≡ true
    tail_if same facts = grind arith

-- What an integer and a fraction satisfy: `any` and `led` tell whether the integer has a digit and a leading zero, and `p`, `f` and
-- `k` whether the point, the fraction and the exponent character are absent.
module _ (any led p one_p f fits_f k : Bool) (flag : Flag → Bool) (only : Bool) where
  record EndFacts : Type 0 where
    point : one_p ≡ true
    fraction : fits_f ≡ true
    after_point : implies p f ≡ true
    some : (any || (not p || not k)) ≡ true
    integer_digits : implies (flag layout.required_integer_digits) any ≡ true
    fraction_digits : implies (flag layout.required_fraction_digits) (p || not f) ≡ true
    mantissa_digits : implies (flag layout.required_mantissa_digits) (any || not f) ≡ true
    notation : implies (flag layout.no_exponent_notation) k ≡ true
    with_fraction : implies (flag layout.no_exponent_without_fraction) (k || not p) ≡ true
    whole_led : implies (flag layout.no_integer_leading_zeros) ((not p || not k) || not led) ≡ true
    float_led : implies (flag layout.no_float_leading_zeros) (not (not p || not k) || not led) ≡ true
    needed : implies (flag layout.required_exponent_notation) (only || not k) ≡ true

  abbrev may_lead_so : Bool
  may_lead_so = (not only && not (flag layout.no_float_leading_zeros))
      || (not (flag layout.no_integer_leading_zeros) && not (flag layout.required_exponent_notation && not only))

  abbrev stops_so : Bool
  stops_so = let may = not (flag layout.required_exponent_notation && not only) in
      if p then may && (any && implies (flag layout.no_integer_leading_zeros) (not led)) else may

  abbrev scales_so : Bool
  scales_so = let may = not (flag layout.no_exponent_notation) in
      if p then may && (implies (flag layout.no_float_leading_zeros) (not led)
      && (implies (flag layout.required_mantissa_digits) any && not (flag layout.no_exponent_without_fraction))) else may

  abbrev fraction_so : Bool → Bool → Bool
  fraction_so digit lone = if p then f else implies (flag layout.no_float_leading_zeros) (not led)
      && (fits_f && (implies (flag layout.required_fraction_digits) digit && implies (flag layout.required_mantissa_digits) (not lone)))

  leads : EndFacts → implies only (p && k) ≡ true → led ≡ true → may_lead_so ≡ true
  leads facts no_float is = grind arith

  module _ (digit lone : Bool) where
    end_if : digit ≡ not f → lone ≡ not (not f || any) → EndFacts → (implies k stops_so && (implies (not k) scales_so && fraction_so digit lone)) ≡ true
    end_if same_digit same_lone facts = grind arith

module _ (m : Notation) where
  -- Digits that are present have a digit.
  has_bytes : (part : Part) (stage : Stage) (run : List ℕ) → has_digit stage ≡ false → is_rest m part false false run ≡ true
      → has_digit (stage_after (m.digit part) stage false run) ≡ is_present run
  has_bytes part stage run none fit = let seen = (passed (m.digit part) stage false run).seen in let present = digits_present m part run fit in grind arith

  module _ (l : Literal) where
    abbrev End : Bool → Bool → Type 0
    End any led = EndFacts any led (is_absent l.point) (is_none_or_one m.point l.point) (is_absent l.fraction) (is_rest m parts.Fraction false false l.fraction)
        (is_absent l.exponent_character) m.flag m.integers_only

    -- The stages after the integer, the fraction and the exponent digits.
    abbrev integer_last : Stage
    integer_last = stage_after (m.digit parts.Integer) (stage_at stages.Start l.sign l.prefix) false l.integer

    abbrev fraction_last : Bool → Stage
    fraction_last any = stage_after (m.digit parts.Fraction) (after_point any) false l.fraction

    abbrev exponent_last : Stage
    exponent_last = stage_after (m.digit parts.Exponent) (stage_at stages.Mark l.exponent_sign []) false l.exponent

    integer_seen : is_rest m parts.Integer false false l.integer ≡ true → has_digit integer_last ≡ is_present l.integer
    integer_seen fit = has_bytes parts.Integer (stage_at stages.Start l.sign l.prefix) l.integer (grind arith) fit

    integer_led : is_led integer_last ≡ is_zero_led m l
    integer_led = (passed (m.digit parts.Integer) (stage_at stages.Start l.sign l.prefix) false l.integer).led ∙ grind arith

    fraction_seen : (any : Bool) → is_rest m parts.Fraction false false l.fraction ≡ true → has_digit (fraction_last any) ≡ is_present l.fraction
    fraction_seen any fit = has_bytes parts.Fraction (after_point any) l.fraction (grind arith) fit

    fraction_counts : (any : Bool) → is_rest m parts.Fraction false false l.fraction ≡ true → is_lone (fraction_last any) ≡ not (is_present l.fraction || any)
    fraction_counts any fit =
        let counts = (passed (m.digit parts.Fraction) (after_point any) false l.fraction).counts in
        let present = digits_present m parts.Fraction l.fraction fit in
        grind arith

    exponent_seen : is_rest m parts.Exponent false false l.exponent ≡ true → has_digit exponent_last ≡ is_present l.exponent
    exponent_seen fit = has_bytes parts.Exponent (stage_at stages.Mark l.exponent_sign []) l.exponent (grind arith) fit

    -- WHAT IS ACCEPTED IS A LITERAL

    literal_if : sign_fits m parts.Integer stages.Start l.sign ≡ true → prefix_fits m stages.Start false l.prefix ≡ true
        → is_rest m parts.Integer false false l.integer ≡ true → ends_part m parts.Integer l integer_last ≡ true → IsSpelled m l
    literal_if sign prefix run is = grind (arith, and_parts, fraction_fits, stops, integer_seen, integer_led, rest_of_none)

module _ (m : Notation) (h : HasRoles m) where
  -- What is accepted is spelled as a literal.
  pub spelled_from : (C : Condition → Bool) (text : List ℕ) → Accepts C m (Some start) text → (l : Literal) × (text ≡ text_of l) × IsSpelled m l
  spelled_from C text is =
      let cut = cut_of m C stages.Start false text is in
      let found = cut.found in
      let l : Literal = record found.more { sign = cut.sign; prefix = cut.prefix; integer = found.digits } in
      let first = stage_at stages.Start cut.sign cut.prefix in
      let no_gap = and_right (is_absent cut.prefix) false refl in
      let none : has_digit first ≡ false = grind arith in
      (l, found.whole, literal_if m l found.signed found.prefixed (rw (none, no_gap) at found.run) (rw (no_gap) at found.end))

  -- WHAT IS SPELLED AS A LITERAL IS ACCEPTED WITHOUT CONDITIONS

  -- `Goes part last c rest d` holds if `rest` arrives where the digits of `part` end at the stage `last`.
  record Goes (part : Part) (last : Stage) (c : Cuts) (rest : List ℕ) (d : Cuts) : Type 0 where
    leads : is_led last ≡ true → may_lead m ≡ true
    arrives : (gap : Bool) → gap_fits m part (has_digit last) gap false ≡ true → is_signed m part last ≡ true
        → Arrives no_condition m (Some (reading last gap)) c rest d

  -- Where a digit follows, it may.
  follow : (D : ByteSet) (stage : Stage) (gap : Bool) (run : List ℕ) → (is_led (stage_after D stage gap run) ≡ true → may_lead m ≡ true) → list_any D run ≡ true
      → may_follow m stage ≡ true
  follow D stage gap run may is = let led = (passed D stage gap run).led in grind arith

  -- The digits of a part.
  run_arrives : (part : Part) (stage : Stage) (gap : Bool) (run rest : List ℕ) (c d : Cuts) → part_of stage ≡ part → is_signed m part stage ≡ true
      → is_rest m part (has_digit stage) gap run ≡ true → Goes part (stage_after (m.digit part) stage gap run) (add_all c (digits_piece part) run) rest d
      → Arrives no_condition m (Some (reading stage gap)) c (run ++ rest) d
  run_arrives part stage gap [] rest c d at signed fit goes = goes.arrives gap fit signed
  run_arrives part stage gap (b ∷ run) rest c d at signed fit goes =
      let more = add c (digits_piece part) in
      elim (cases_Bool (m.digit part b)) [
        | inl digit ↦
            let may = follow (m.digit part) stage gap (b ∷ run) goes.leads (or_left _ _ digit) in
            free_byte m part stage gap b roles.Digit c (run ++ rest) d at (digit_role m part b digit) (grind arith)
            (run_arrives part (after_digit stage gap (b == 48)) false run rest more d (digit_part stage gap (b == 48)
            ∙ at) (grind arith) (grind arith) (rw (digit) at goes))
        | inr other ↦
            let may = λ (some : list_any (m.digit part) run ≡ true). follow (m.digit part) stage gap (b ∷ run) goes.leads (or_right (m.digit part b) _ some) in
            let closes = opens m part (has_digit stage) (may_follow m stage) run (grind arith) may in
            free_byte m part stage gap b roles.Separator c (run ++ rest) d at (is_role m part b h roles.Separator (λ e. cc) (grind arith)) (grind arith)
            (run_arrives part (after_mark stage) true run rest more d (mark_part stage ∙ at) (grind arith) (grind arith) (rw (other) at goes))
      ]

  -- Digits of a part without a leading zero.
  unled_arrives : (part : Part) (stage : Stage) (run rest : List ℕ) (c d : Cuts) → part_of stage ≡ part → is_signed m part stage ≡ true
      → has_digit stage ≡ false → led_after (m.digit part) stage run ≡ false → is_rest m part false false run ≡ true
      → let last = stage_after (m.digit part) stage false run in
      ((gap : Bool) → gap_fits m part (has_digit last) gap false ≡ true → is_signed m part last ≡ true
      → Arrives no_condition m (Some (reading last gap)) (add_all c (digits_piece part) run) rest d)
      → Arrives no_condition m (Some (reading stage false)) c (run ++ rest) d
  unled_arrives part stage run rest c d at signed none unled fit goes =
      run_arrives part stage false run rest c d at signed (subst (λ t. is_rest m part t false run ≡ true) (sym none) fit)
      (record { leads = λ led. let last = (passed (m.digit part) stage false run).led in cc; arrives = goes })

  -- A sign, or none.
  sign_arrives : (part : Part) (stage : Stage) (gap : Bool) (sign rest : List ℕ) (c d : Cuts) → part_of stage ≡ part → sign_fits m part stage sign ≡ true
      → (is_signed m part (stage_at stage sign []) ≡ true
      → Arrives no_condition m (Some (reading (stage_at stage sign []) gap)) (add_all c (piece_of part roles.Sign) sign) rest d)
      → Arrives no_condition m (Some (reading stage gap)) c (sign ++ rest) d
  sign_arrives part stage gap [] rest c d at fits more = more (and_parts (implies (forbids_plus m part) true) (is_signed m part stage) fits).1
  sign_arrives part stage gap (b ∷ []) rest c d at fits more =
      free_byte m part stage gap b roles.Sign c rest d at (is_role m part b h roles.Sign (λ e. cc) (grind arith)) (grind arith) (more (grind arith))
  sign_arrives part stage gap (b ∷ x ∷ sign) rest c d at fits more = absurd (false≢true fits)

  -- The suffix, or nothing.
  stop_arrives : (part : Part) (stage : Stage) (gap : Bool) (c : Cuts) (suffix : List ℕ) → part_of stage ≡ part
      → (ends m part stage gap && continues m part stage roles.Suffix) ≡ true → is_none_or_one m.suffix suffix ≡ true
      → Arrives no_condition m (Some (reading stage gap)) c suffix (add_all c pieces.Suffix suffix)
  stop_arrives part stage gap c [] at is one = grind arith
  stop_arrives part stage gap c (b ∷ []) at is one =
      free_byte m part stage gap b roles.Suffix c [] _ at (is_role m part b h roles.Suffix (λ e. cc) one) is (refl, refl)
  stop_arrives part stage gap c (b ∷ x ∷ suffix) at is one = absurd (false≢true one)

  -- What follows an exponent character.
  power_arrives : (l : Literal) (c : Cuts) → sign_fits m parts.Exponent stages.Mark l.exponent_sign ≡ true
      → digits_fit m parts.Exponent (stage_at stages.Mark l.exponent_sign []) l.exponent (ends_exponent m l) ≡ true
      → Arrives no_condition m (Some (reading stages.Mark false)) c (l.exponent_sign ++ (l.exponent ++ l.suffix))
      (add_all (add_all (add_all c pieces.ExponentSign l.exponent_sign) pieces.Exponent l.exponent) pieces.Suffix l.suffix)
  power_arrives l c sign fits = sign_arrives parts.Exponent stages.Mark false l.exponent_sign (l.exponent ++ l.suffix) c _ refl sign
      (λ signed. unled_arrives parts.Exponent (stage_at stages.Mark l.exponent_sign []) l.exponent l.suffix _ _ (exponent_part l.exponent_sign) signed
      (grind arith) (grind arith) (grind arith) (λ gap closed signed. stop_arrives parts.Exponent (exponent_last m l) gap _ l.suffix
      (run_part (m.digit parts.Exponent) (stage_at stages.Mark l.exponent_sign []) false l.exponent
      ∙ exponent_part l.exponent_sign) (grind arith) (grind arith)))

  -- What follows the mantissa.
  tail_arrives : (l : Literal) (part : Part) (stage : Stage) (gap : Bool) (c : Cuts) → part_of stage ≡ part → ends m part stage gap ≡ true
      → ends_mantissa m l (continues m part stage roles.Suffix) (continues m part stage roles.Exponent) ≡ true
      → Arrives no_condition m (Some (reading stage gap)) c (text_after parts.Fraction l) (tail_cuts l c)
  tail_arrives l part stage gap c at end fits = go l.exponent_character l.exponent_sign l.exponent fits where
    go : (character sign exponent : List ℕ) → let l = record l { exponent_character = character; exponent_sign = sign; exponent = exponent } in
        ends_mantissa m l (continues m part stage roles.Suffix) (continues m part stage roles.Exponent) ≡ true
        → Arrives no_condition m (Some (reading stage gap)) c (text_after parts.Fraction l) (tail_cuts l c)
    go [] [] [] fits =
        let both = and_parts (continues m part stage roles.Suffix) _ fits in
        stop_arrives part stage gap c l.suffix at (and_from _ _ end both.0) both.1
    go (b ∷ []) sign exponent fits =
        let scale = and_parts (continues m part stage roles.Exponent) _ (and_parts (m.exponent_character b) _ fits).1 in
        free_byte m part stage gap b roles.Exponent c (sign ++ (exponent ++ l.suffix)) _ at
        (is_role m part b h roles.Exponent (λ e. cc) (and_parts (m.exponent_character b) _ fits).0) (and_from _ _ end scale.0)
        (power_arrives (record l { exponent_character = b ∷ []; exponent_sign = sign; exponent = exponent })
        (add c pieces.ExponentCharacter) (let fit = scale.1 in grind arith) (let fit = scale.1 in grind arith))
    go _ sign exponent fits = absurd (grind arith)

  -- What follows the integer digits.
  end_arrives : (l : Literal) (stage : Stage) (gap : Bool) (c : Cuts) → part_of stage ≡ parts.Integer → ends m parts.Integer stage gap ≡ true
      → ends_part m parts.Integer l stage ≡ true → Arrives no_condition m (Some (reading stage gap)) c (text_after parts.Integer l) (end_cuts l c)
  end_arrives l stage gap c at end fits = go l.point l.fraction (and_parts (digits_suffice m parts.Integer stage) _ fits).1 where
    go : (point fraction : List ℕ) → let l = record l { point = point; fraction = fraction } in
        (is_none_or_one m.point point && (fraction_fits m l stage && ends_mantissa m l (stops m l stage) (scales m l stage))) ≡ true
        → Arrives no_condition m (Some (reading stage gap)) c (text_after parts.Integer l) (end_cuts l c)
    go [] [] fits = tail_arrives l parts.Integer stage gap c at end fits
    go (b ∷ []) fraction fits =
        let l : Literal = record l { point = b ∷ []; fraction = fraction } in
        let more = add c pieces.Point in
        let point = and_parts (m.point b) _ fits in
        let both = and_parts (fraction_fits m l stage) _ point.1 in
        let float = both.0 in
        free_byte m parts.Integer stage gap b roles.Point c (fraction ++ text_after parts.Fraction l) (end_cuts l c) at
        (is_role m parts.Integer b h roles.Point (λ e. cc) point.0) (grind arith)
        (unled_arrives parts.Fraction (after_point (has_digit stage)) fraction (text_after parts.Fraction l) more (end_cuts l c)
        (point_part (has_digit stage)) (grind arith) (grind arith) (grind arith) (grind arith)
        (λ gap closed signed. tail_arrives l parts.Fraction (fraction_last m l (has_digit stage)) gap (add_all more pieces.Fraction fraction)
        (run_part (m.digit parts.Fraction) (after_point (has_digit stage)) false fraction ∙ point_part (has_digit stage)) (grind arith) both.1))
    go _ fraction fits = absurd (false≢true fits)

  -- A prefix, or none.
  prefix_arrives : (stage : Stage) (prefix rest : List ℕ) (c d : Cuts) → part_of stage ≡ parts.Integer → may_follow m stage ≡ true
      → after_digit stage false true ≡ stages.Bare
      → is_signed m parts.Integer stage ≡ true → is_none_or_prefix m.prefix prefix ≡ true → c pieces.Prefix ≡ 0 → c pieces.Integer ≡ 0
      → (is_signed m parts.Integer (stage_at stage [] prefix) ≡ true → Arrives no_condition m (Some (reading (stage_at stage [] prefix) false))
      (add_all c pieces.Prefix prefix) rest d) → Arrives no_condition m (Some (reading stage false)) c (prefix ++ rest) d
  prefix_arrives stage [] rest c d at follows bare signed one no_prefix no_integer more = more signed
  prefix_arrives stage (z ∷ b ∷ []) rest c d at follows bare signed one no_prefix no_integer more =
      let both = and_parts (z == 48) _ one in
      let zero = add c pieces.Integer in
      subst (λ z. Arrives no_condition m (Some (reading stage false)) c (z ∷ b ∷ rest) d) (sym (eqb-true z 48 both.0))
      (free_byte m parts.Integer stage false 48 roles.Digit c (b ∷ rest) d at (digit_role m parts.Integer 48 (h.zero_is_digit parts.Integer))
      (and_from _ _ signed follows) (subst (λ s. Arrives no_condition m (Some (reading s false)) zero (b ∷ rest) d) (sym bare)
      (free_byte m parts.Integer stages.Bare false b roles.Prefix zero rest d refl (is_role m parts.Integer b h roles.Prefix (λ e. cc) both.1) refl
      (subst (λ c. Arrives no_condition m (Some (reading stages.Prefixed false)) c rest d) (λ j other. counts other j) (more refl))))) where
        counts : (other : Piece) → add_all c pieces.Prefix (z ∷ b ∷ []) other ≡ with_prefix (add c pieces.Integer) other
        counts pieces.Prefix = omega (arith, no_prefix)
        counts pieces.Integer = no_integer
        counts _ = refl
  prefix_arrives stage _ rest c d at follows bare signed one no_prefix no_integer more = absurd (false≢true one)

  module _ (l : Literal) (is : IsSpelled m l) where
    run : (part : Part) (digits : List ℕ) → is_run m part digits ≡ true → is_rest m part false false digits ≡ true
    run part digits is = rest_of_none m part digits ∙ is

    end : End m l (has_digit (integer_last m l)) (is_led (integer_last m l))
    end = grind (arith, run, integer_seen, integer_led)

    ends_well : ends_part m parts.Integer l (integer_last m l) ≡ true
    ends_well =
        let last = integer_last m l in
        let all = end_if _ _ _ _ _ _ _ _ _ (has_digit (fraction_last m l (has_digit last))) (is_lone (fraction_last m l (has_digit last)))
        (fraction_seen m l (has_digit last) end.fraction) (fraction_counts m l (has_digit last) end.fraction) end in
        let stop = and_parts (implies (is_absent l.exponent_character) (stops m l last)) _ all in
        let scale = and_parts (implies (is_present l.exponent_character) (scales m l last)) _ stop.1 in
        and_from _ _ end.integer_digits (and_from _ _ end.point (and_from _ _ scale.1 (tail_if _ _ _ _ _ _ _ _ _ _ _ (stops m l last) (scales m l last)
        (has_digit (exponent_last m l)) (exponent_seen m l (run parts.Exponent l.exponent is.exponent))
        (let fits = run parts.Exponent l.exponent is.exponent in grind arith))))

    -- It is accepted, and its parts are counted.
    pub spelled_arrives : Arrives no_condition m (Some start) no_cuts (text_of l) (all_cuts l)
    spelled_arrives =
        let signs = add_all no_cuts pieces.Sign l.sign in
        let dressed = add_all signs pieces.Prefix l.prefix in
        sign_arrives parts.Integer stages.Start false l.sign _ no_cuts (all_cuts l) refl (grind arith)
        (λ signed. prefix_arrives (stage_at stages.Start l.sign []) l.prefix _ signs (all_cuts l) (integer_part l.sign []) (grind arith)
        (grind arith) signed is.prefix (added no_cuts pieces.Sign pieces.Prefix l.sign) (added no_cuts pieces.Sign pieces.Integer l.sign)
        (λ signed. run_arrives parts.Integer (stage_at stages.Start l.sign l.prefix) false l.integer _ dressed (all_cuts l)
        (integer_part l.sign l.prefix) signed
        (subst (λ t. is_rest m parts.Integer t false l.integer ≡ true) (grind arith) (run parts.Integer l.integer is.integer)) (record {
          leads = λ led. leads _ _ _ _ _ _ _ _ _ end (grind arith) led;
          arrives = λ gap closed signed. end_arrives l (integer_last m l) gap (add_all dressed pieces.Integer l.integer)
              (run_part (m.digit parts.Integer) (stage_at stages.Start l.sign l.prefix) false l.integer ∙ integer_part l.sign l.prefix)
              (and_from _ _ signed (and_from _ _ closed end.integer_digits)) ends_well;
        })))
