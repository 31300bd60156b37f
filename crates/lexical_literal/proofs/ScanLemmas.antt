-- What is read of a text part after part.
use Rattle.lexical_literal.proofs.Common.{Bool, Cuts, HasRoles, IsAt, IsReadOn, IsTrue, List, Notation, Part, Piece, Role, Some, Stage, Stopped, Summary, add}
use Rattle.lexical_literal.proofs.Common.{add_more, admits, after, after_digit, after_mark, and_from, and_parts, ap, arith, at_stage, awaits_integer}
use Rattle.lexical_literal.proofs.Common.{common_steps, count, digits_of, digits_piece, false, false≢true, forbids_plus, fresh, get_or, has_digit}
use Rattle.lexical_literal.proofs.Common.{if◌then◌else◌, is_free, is_negative, is_run, is_signed, lacks_prefix, length, may_follow, may_read, not, or_left}
use Rattle.lexical_literal.proofs.Common.{part_of, piece_of, refl, role_at, separators_in, subst, sym, take_more, takes, takes_in, true, with_prefix, ℕ, ◌&&◌}
use Rattle.lexical_literal.proofs.Common.{◌+◌, ◌-◌, ◌<◌, ◌==◌, ◌||◌, ◌∙◌, ◌≡◌, ◌≤◌, None, move_by, nat_tests, signs, start, step}
use Rattle.lexical_literal.proofs.StepLemmas.{awaited_part}
use Rattle.lexical_literal.specs.Additions.Scan.{IsSign}
use Rattle.lexical_util.specs.Layout as layout
use Rattle.lexical_util.specs.declared.feature_format.roles.Role.TheVariants as roles
use Rattle.lexical_util.specs.declared.format_flags.Part.TheVariants as parts
use Rattle.lexical_literal.specs.declared.step.Piece.TheVariants as pieces
use Rattle.lexical_literal.specs.declared.step.Stage.TheVariants as stages
use Rattle.lexical_literal.specs.declared.syntax.Condition.TheVariants as conditions
use Rattle.lexical_literal.proofs.WalkLemmas.{digit_role, is_role, walk_append, tally_append}

sum_more : (c : Cuts) (p other : Piece) (k n l : ℕ) → k ≤ n → n ≤ l → add_more (add_more c p (n - k)) p (l - n) other ≡ add_more c p (l - k) other
sum_more c p other k n l low high = let same : n - k + (l - n) ≡ l - k = omega arith in grind arith

-- What a digit makes of a stage without digits.
first_follows : (m : Notation) (stage : Stage) → has_digit stage ≡ false → may_follow m stage ≡ true
first_follows m x1 none = grind arith

after_first : (stage : Stage) (zero : Bool) → has_digit stage ≡ false
    → after_digit stage false zero ≡ (if zero && awaits_integer stage then stages.Bare else digits_of (part_of stage))
after_first stage zero none = grind arith

neither : (x y a : Bool) → not ((x || y) && a) ≡ true → (not (x && a) ≡ true) × (not (y && a) ≡ true)
neither x y a none = (grind arith, grind arith)

pub admits_free : (m : Notation) (s : Summary) (b : ℕ) (r : Role) → (roles.Sign ≡ r → ⊥) → is_free m s.stage ≡ true
    → admits m.condition s b r ≡ true
admits_free m s b r other free = grind (arith, and_parts, neither, and_from, or_left)

pub admits_settled : (m : Notation) (s : Summary) (b : ℕ) (r : Role) → lacks_prefix s.stage ≡ false → (roles.Sign ≡ r → ⊥)
    → admits m.condition s b r ≡ true
admits_settled m s b r settled other = admits_free m s b r other (grind arith)

-- A stage that another digit does not change.
module _ (m : Notation) (stage : Stage) (run : is_run stage ≡ true) where
  takes_more : (part : Part) (plus gap : Bool) → (gap ≡ true → m.flag (separators_in part).internal ≡ true)
      → takes_in m part stage gap plus roles.Digit ≡ true
  takes_more part plus gap allowed = grind arith

module _ (m : Notation) (text : List ℕ) where
  -- More is read.
  pub go_on : (at mid next : Stopped) (p : Piece) → IsReadOn m text at p mid → IsReadOn m text mid p next → IsReadOn m text at p next
  go_on at mid next p first second = record {
    more = omega (arith, first.more, second.more);
    reads = λ c is. subst (IsAt m text next) (λ j other. sum_more c p other at.size mid.size next.size first.more second.more j)
        (second.reads (add_more c p (mid.size - at.size)) (first.reads c is));
  }

  -- One more byte of a piece is a byte of it.
  one_on : (at next : Stopped) (p : Piece) → next.size ≡ at.size + 1 → ((c : Cuts) → IsAt m text at c → IsAt m text next (add c p)) → IsReadOn m text at p next
  one_on at next p one is = let same : 1 ≡ next.size - at.size = omega (arith, one) in record {
    more = omega (arith, one);
    reads = λ c begun. subst (λ n. IsAt m text next (add_more c p n)) same (is c begun);
  }

  module _ (h : HasRoles m) where
    -- One byte is read.
    pub read_one : (at : Stopped) (r : Role) → at.size < length text
        → role_at m (part_of at.read.stage) (get_or text at.size 0) ≡ Some r → at.read.ended ≡ false
        → takes m at.read (get_or text at.size 0 == 43) r ≡ true
        → admits m.condition at.read (get_or text at.size 0) r ≡ true → (c : Cuts) → IsAt m text at c
        → IsAt m text (record { size = at.size + 1; read = after at.read (get_or text at.size 0 == 48) r }) (count (part_of at.read.stage) (Some r) c)
    read_one at r inside plays going taken admitted c is = grind (arith, common_steps, take_more, walk_append, tally_append)

    -- One byte of a part is read, and one that is no sign where nothing is missing.
    read_in : (part : Part) (at : Stopped) (r : Role) → part_of at.read.stage ≡ part → at.size < length text
        → role_at m part (get_or text at.size 0) ≡ Some r → at.read.ended ≡ false
        → takes_in m part at.read.stage at.read.gap (get_or text at.size 0 == 43) r ≡ true
        → admits m.condition at.read (get_or text at.size 0) r ≡ true → (c : Cuts) → IsAt m text at c
        → IsAt m text (record { size = at.size + 1; read = after at.read (get_or text at.size 0 == 48) r }) (count part (Some r) c)
    read_in part at r in_part inside plays going taken admitted = let b = get_or text at.size 0 in
        let next : Stopped = record { size = at.size + 1; read = after at.read (b == 48) r } in
        subst (λ part. (c : Cuts) → IsAt m text at c → IsAt m text next (count part (Some r) c)) in_part
        (read_one at r inside (subst (λ part. role_at m part b ≡ Some r) (sym in_part) plays) going
        (subst (λ part. takes_in m part at.read.stage at.read.gap (b == 43) r ≡ true) (sym in_part) taken)
        admitted)

    pub read_free : (part : Part) (at : Stopped) (r : Role) → part_of at.read.stage ≡ part → (roles.Sign ≡ r → ⊥) → at.size < length text
        → role_at m part (get_or text at.size 0) ≡ Some r → at.read.ended ≡ false
        → takes_in m part at.read.stage at.read.gap (get_or text at.size 0 == 43) r ≡ true → is_free m at.read.stage ≡ true → (c : Cuts) → IsAt m text at c
        → IsAt m text (record { size = at.size + 1; read = after at.read (get_or text at.size 0 == 48) r }) (count part (Some r) c)
    read_free part at r in_part other inside plays going taken free =
        read_in part at r in_part inside plays going taken (admits_free m at.read (get_or text at.size 0) r other free)

    -- The first digit of a part.
    pub read_first : (part : Part) (size : ℕ) (stage : Stage) → part_of stage ≡ part → size < length text → m.digit part (get_or text size 0) ≡ true
        → has_digit stage ≡ false → is_signed m part stage ≡ true → may_read m text size stage ≡ true
        → IsReadOn m text (at_stage size stage) (digits_piece part)
        (at_stage (size + 1) (if (get_or text size 0 == 48) && awaits_integer stage then stages.Bare else digits_of part))
    read_first part size stage in_part inside digit none signed first = let b = get_or text size 0 in
        subst (λ after. IsReadOn m text (at_stage size stage) (digits_piece part) (at_stage (size + 1) after))
        (after_first stage (b == 48) none ∙ ap (λ part. if (b == 48) && awaits_integer stage then stages.Bare else digits_of part) in_part)
        (one_on _ _ (digits_piece part) refl (read_in part (at_stage size stage) roles.Digit in_part inside (digit_role m part b digit) refl
        (and_from _ _ signed (and_from _ _ refl (first_follows m stage none))) (grind arith)))

    -- A digit that changes no stage.
    pub read_digit : (part : Part) (size : ℕ) (stage : Stage) → part_of stage ≡ part → is_run stage ≡ true → size < length text
        → m.digit part (get_or text size 0) ≡ true → IsReadOn m text (at_stage size stage) (digits_piece part) (at_stage (size + 1) stage)
    read_digit part size stage in_part run inside digit = let b = get_or text size 0 in
        subst (λ after. IsReadOn m text (at_stage size stage) (digits_piece part) (at_stage (size + 1) after)) (grind arith)
        (one_on _ _ (digits_piece part) refl (read_free part (at_stage size stage) roles.Digit in_part (λ same. cc) inside (digit_role m part b digit) refl
        (takes_more m stage run part (b == 43) false (λ gap. absurd (false≢true gap))) (grind arith)))

    -- A separator and a digit behind it, which change no stage.
    pub read_separated : (part : Part) (size : ℕ) (stage : Stage) → part_of stage ≡ part → is_run stage ≡ true → size + 1 < length text
        → m.separator (get_or text size 0) ≡ true → m.digit part (get_or text (size + 1) 0) ≡ true → m.flag (separators_in part).internal ≡ true
        → IsReadOn m text (at_stage size stage) (digits_piece part) (at_stage (size + 2) stage)
    read_separated part size stage in_part run inside separator digit allowed =
        let b = get_or text size 0 in
        let d = get_or text (size + 1) 0 in
        let gap : Stopped = record { size = size + 1; read = record { stage = stage; gap = true; ended = false } } in
        let two : size + 1 + 1 ≡ size + 2 = omega arith in
        let first : IsReadOn m text (at_stage size stage) (digits_piece part) gap =
        subst (λ after. IsReadOn m text (at_stage size stage) (digits_piece part)
        (record { size = size + 1; read = record { stage = after; gap = true; ended = false } })) (grind arith)
        (one_on _ _ (digits_piece part) refl (read_free part (at_stage size stage) roles.Separator in_part (λ same. cc) (omega (arith, inside))
        (is_role m part b h roles.Separator (λ same. cc) separator) refl (grind arith) (grind arith))) in
        let second : IsReadOn m text gap (digits_piece part) (at_stage (size + 1 + 1) stage) =
        subst (λ after. IsReadOn m text gap (digits_piece part) (at_stage (size + 1 + 1) after)) (grind arith)
        (one_on _ _ (digits_piece part) refl (read_free part gap roles.Digit in_part (λ same. cc) inside (digit_role m part d digit) refl
        (takes_more m stage run part (d == 43) true (λ _. allowed)) (grind arith))) in
        go_on (at_stage size stage) gap (at_stage (size + 2) stage) (digits_piece part) first
        (subst (λ n. IsReadOn m text gap (digits_piece part) (at_stage n stage)) two second)

    -- The sign of the mantissa, or of the exponent.
    pub read_sign : (part : Part) (size : ℕ) → size < length text → IsTrue (((get_or text size 0 == 43) && not (forbids_plus m part))
        || ((get_or text size 0 == 45) && not (m.condition conditions.NegativeSign && is_negative part false roles.Sign)))
        → IsReadOn m text (at_stage size (fresh part)) (piece_of part roles.Sign) (at_stage (size + 1) (after_mark (fresh part)))
    read_sign part size inside allowed = let b = get_or text size 0 in
        subst (λ piece. IsReadOn m text (at_stage size (fresh part)) piece (at_stage (size + 1) (after_mark (fresh part)))) (sign_piece part)
        (one_on _ _ (piece_of (part_of (fresh part)) roles.Sign) refl (read_one (at_stage size (fresh part)) roles.Sign inside
        (is_role m _ b h roles.Sign (λ same. cc) (grind arith)) refl (sign_taken part b allowed) (sign_admitted part b allowed))) where
          allows : Part → ℕ → Bool
          allows part b = ((b == 43) && not (forbids_plus m part)) || ((b == 45) && not (m.condition conditions.NegativeSign && is_negative part false
              roles.Sign))

          sign_piece : (part : Part) → piece_of (part_of (fresh part)) roles.Sign ≡ piece_of part roles.Sign
          sign_piece part = grind arith

          sign_taken : (part : Part) (b : ℕ) → allows part b ≡ true → takes m (at_stage 0 (fresh part)).read (b == 43) roles.Sign ≡ true
          sign_taken part b is = grind arith

          sign_admitted : (part : Part) (b : ℕ) → allows part b ≡ true → admits m.condition (at_stage 0 (fresh part)).read b roles.Sign ≡ true
          sign_admitted part b is = grind arith

    -- The digit behind a zero that begins the integer.
    pub read_led : (size : ℕ) → size < length text → m.digit parts.Integer (get_or text size 0) ≡ true → may_follow m stages.Bare ≡ true
        → is_free m stages.Bare ≡ true → IsReadOn m text (at_stage size stages.Bare) pieces.Integer (at_stage (size + 1) stages.Led)
    read_led size inside digit may free = let b = get_or text size 0 in
        one_on _ _ pieces.Integer refl
        (read_free parts.Integer (at_stage size stages.Bare) roles.Digit refl (λ same. cc) inside (digit_role m parts.Integer b digit) refl may free)

    -- The zero that begins the integer.
    pub read_zero : (size : ℕ) (stage : Stage) → size < length text → get_or text size 0 ≡ 48 → awaits_integer stage ≡ true
        → is_signed m parts.Integer stage ≡ true
        → IsReadOn m text (at_stage size stage) pieces.Integer (at_stage (size + 1) stages.Bare)
    read_zero size stage inside naught begun signed =
        let b = get_or text size 0 in
        let is_zero : (b == 48) ≡ true = grind arith in
        let in_part = awaited_part stage begun in
        subst (λ piece. IsReadOn m text (at_stage size stage) piece (at_stage (size + 1) stages.Bare)) (ap digits_piece in_part)
        (subst (λ after. IsReadOn m text (at_stage size stage) (digits_piece (part_of stage)) (at_stage (size + 1) after))
        (ap (after_digit stage false) is_zero ∙ bare stage begun)
        (one_on _ _ (digits_piece (part_of stage)) refl (read_one (at_stage size stage) roles.Digit inside
        (digit_role m (part_of stage) b (ap (m.digit (part_of stage)) naught ∙ h.zero_is_digit (part_of stage))) refl
        (subst (λ part. takes_in m part stage false (b == 43) roles.Digit ≡ true) (sym in_part)
        (and_from _ _ signed (and_from _ _ refl (first_follows m stage (grind arith)))))
        (ap (λ b. admits m.condition (at_stage size stage).read b roles.Digit) naught ∙ admitted stage begun)))) where
          bare : (stage : Stage) → awaits_integer stage ≡ true → after_digit stage false true ≡ stages.Bare
          bare stage is = grind arith

          admitted : (stage : Stage) → awaits_integer stage ≡ true → admits m.condition (at_stage 0 stage).read 48 roles.Digit ≡ true
          admitted stage is = grind arith

    -- The base prefix, with its zero.
    pub read_prefix : (size : ℕ) (stage : Stage) → size + 1 < length text → get_or text size 0 ≡ 48 → m.prefix (get_or text (size + 1) 0) ≡ true
        → awaits_integer stage ≡ true → is_signed m parts.Integer stage ≡ true
        → (c : Cuts) → IsAt m text (at_stage size stage) c → IsAt m text (at_stage (size + 2) stages.Prefixed) (with_prefix c)
    read_prefix size stage inside naught prefix first signed c begun =
        let b = get_or text (size + 1) 0 in
        let two : size + 1 + 1 ≡ size + 2 = omega arith in
        subst (λ c. IsAt m text (at_stage (size + 2) stages.Prefixed) c) (λ j other. same_prefix c (size + 1 - size) other j)
        (subst (λ n. IsAt m text (at_stage n stages.Prefixed) (with_prefix (add_more c pieces.Integer (size + 1 - size)))) two
        (read_one (at_stage (size + 1) stages.Bare) roles.Prefix inside (is_role m parts.Integer b h roles.Prefix (λ same. cc) prefix) refl refl
        (grind arith) _ ((read_zero size stage (omega (arith, inside)) naught first signed).reads c begun))) where
          same_prefix : (c : Cuts) (n : ℕ) (other : Piece) → with_prefix (add_more c pieces.Integer n) other ≡ with_prefix c other
          same_prefix c n other = grind arith

-- No sign.
pub no_sign : (m : Notation) (text : List ℕ) (part : Part) (size : ℕ) → size ≤ length text → is_signed m part (fresh part) ≡ true → IsSign m text part size 0
no_sign m text part size within signed = grind arith

-- No literal begins with a sign that is not allowed.
module _ (m : Notation) (h : HasRoles m) (b : ℕ) where
  sign_refused : signs b ≡ true → (takes m start (b == 43) roles.Sign && admits m.condition start b roles.Sign) ≡ false → step m start b ≡ None
  sign_refused sign refused = ap (move_by m.condition m start b) (is_role m parts.Integer b h roles.Sign (λ e. cc) sign) ∙ grind arith

  pub plus_refused : b ≡ 43 → m.flag layout.no_positive_mantissa_sign ≡ true → step m start b ≡ None
  plus_refused plus forbidden = sign_refused (grind (arith, nat_tests)) (grind (arith, nat_tests))

  pub minus_refused : b ≡ 45 → m.condition conditions.NegativeSign ≡ true → step m start b ≡ None
  minus_refused minus forbidden = sign_refused (grind (arith, nat_tests)) (grind (arith, nat_tests))
