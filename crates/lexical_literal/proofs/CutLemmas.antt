-- A text that is accepted, cut into parts.
use Rattle.lexical_literal.proofs.Common.{Bool, Condition, List, Literal, Notation, Part, Role, Some, Stage, Summary, [], after, after_digit, after_mark}
use Rattle.lexical_literal.proofs.Common.{after_point, and_from, and_parts, ap, arith, awaits_integer, continues, digits_suffice, ends, false, false≢true}
use Rattle.lexical_literal.proofs.Common.{forbids_plus, gap_fits, has_digit, implies, is_bare, is_fresh, is_none_or_one, is_open, is_signed, may_float}
use Rattle.lexical_literal.proofs.Common.{may_follow, not, part_of, refl, role_at, separators_in, signs, subst, sym, takes, true, ℕ, ◌&&◌, ◌++◌, ◌==◌, ◌||◌}
use Rattle.lexical_literal.proofs.Common.{◌∙◌, ◌∷◌, ◌≡◌}
use Rattle.lexical_util.specs.declared.feature_format.roles.Role.TheVariants as roles
use Rattle.lexical_util.specs.declared.format_flags.Part.TheVariants as parts
use Rattle.lexical_literal.specs.declared.step.Stage.TheVariants as stages
use Rattle.lexical_literal.proofs.RunLemmas.{is_rest}
use Rattle.lexical_literal.proofs.WalkLemmas.{Accepts, took, none_accepts, as_digit, no_digit, as_role}
use Rattle.lexical_literal.proofs.StepLemmas.{reading, digit_part, mark_part, point_part, stage_after, after_byte, stage_at, gap_at, sign_fits, prefix_fits}
use Rattle.lexical_literal.proofs.StepLemmas.{ends_part, text_after}

-- A sign, a prefix, digits, and the parts of `more` behind the digits of `part`.
pub record Found (m : Notation) (part : Part) (stage : Stage) (gap : Bool) (sign prefix text : List ℕ) : Type 0 where
  pub digits : List ℕ
  pub more : Literal
  pub whole : text ≡ sign ++ (prefix ++ (digits ++ text_after part more))
  pub signed : sign_fits m part stage sign ≡ true
  pub prefixed : prefix_fits m stage gap prefix ≡ true
  pub run : is_rest m part (has_digit (stage_at stage sign prefix)) (gap_at gap prefix) digits ≡ true
  pub end : ends_part m part more (stage_after (m.digit part) (stage_at stage sign prefix) (gap_at gap prefix) digits) ≡ true

pub record Cut (m : Notation) (part : Part) (stage : Stage) (gap : Bool) (text : List ℕ) : Type 0 where
  pub sign : List ℕ
  pub prefix : List ℕ
  pub found : Found m part stage gap sign prefix text

-- `only x` is a number that only has the suffix `x`.
abbrev pub only : List ℕ → Literal
only x = record { sign = []; prefix = []; integer = []; point = []; fraction = []; exponent_character = []; exponent_sign = []; exponent = []; suffix = x }

module _ (m : Notation) where
  -- After a digit, a separator or a sign, no sign follows, and after a separator, a decimal point or an exponent character, no prefix.
  unsigned : (part : Part) (stage : Stage) (gap : Bool) (text : List ℕ) → is_fresh stage ≡ false → (cut : Cut m part stage gap text)
      → Found m part stage gap [] cut.prefix text
  unsigned part stage gap text over cut = subst (λ s. Found m part stage gap s cut.prefix text) (let signed = cut.found.signed in grind arith) cut.found

  unprefixed : (part : Part) (stage : Stage) (gap : Bool) (sign prefix text : List ℕ) → is_bare stage ≡ false → (awaits_integer stage && not gap) ≡ false
      → Found m part stage gap sign prefix text → Found m part stage gap sign [] text
  unprefixed part stage gap sign prefix text bare new found = grind arith

  plain : (part : Part) (stage : Stage) (gap : Bool) (text : List ℕ) → is_fresh stage ≡ false → is_bare stage ≡ false
      → (awaits_integer stage && not gap) ≡ false → Cut m part stage gap text → Found m part stage gap [] [] text
  plain part stage gap text over bare new cut = unprefixed part stage gap [] cut.prefix text bare new (unsigned part stage gap text over cut)

  module _ (part : Part) (stage : Stage) (gap : Bool) (text : List ℕ) where
    cut_at : (sign prefix digits : List ℕ) (more : Literal) → text ≡ sign ++ (prefix ++ (digits ++ text_after part more)) → sign_fits m part stage sign ≡ true
        → prefix_fits m stage gap prefix ≡ true → is_rest m part (has_digit (stage_at stage sign prefix)) (gap_at gap prefix) digits ≡ true
        → ends_part m part more (stage_after (m.digit part) (stage_at stage sign prefix) (gap_at gap prefix) digits) ≡ true → Cut m part stage gap text
    cut_at sign prefix digits more whole signed prefixed run end = grind arith

    -- A part that ends.
    ended_by : (more : Literal) → text ≡ text_after part more → ends m part stage gap ≡ true
        → (digits_suffice m part stage ≡ true → ends_part m part more stage ≡ true) → Cut m part stage gap text
    ended_by more whole is end = cut_at [] [] [] more whole (grind arith) refl (grind arith) (end (grind arith))

    -- Nothing but a suffix follows.
    stopped : (ends m part stage gap && continues m part stage roles.Suffix) ≡ true → is_none_or_one m.suffix text ≡ true → Cut m part stage gap text
    stopped is one =
        let both = and_parts _ (continues m part stage roles.Suffix) is in
        ended_by (only text) (grind arith) both.0 (λ digits. let stop = both.1 in grind arith)

  module _ (part : Part) (stage : Stage) (gap : Bool) (b : ℕ) (text : List ℕ) where
    -- A digit or a separator in front of digits.
    longer : (next : Stage) (gap' digit : Bool) → m.digit part b ≡ digit → is_signed m part stage ≡ true
        → ((run : List ℕ) → is_rest m part (has_digit next) gap' run ≡ true → is_rest m part (has_digit stage) gap (b ∷ run) ≡ true)
        → ((run : List ℕ) → stage_after (m.digit part) next gap' run ≡ after_byte (m.digit part) stage gap b run digit)
        → Found m part next gap' [] [] text → Cut m part stage gap (b ∷ text)
    longer next gap' digit is signed fits same found = cut_at part stage gap (b ∷ text) [] [] (b ∷ found.digits) found.more (ap (λ t. b ∷ t) found.whole)
        (grind arith) refl (fits found.digits found.run)
        (subst (λ s. ends_part m part found.more s ≡ true) (same found.digits ∙ ap (after_byte (m.digit part) stage gap b found.digits) (sym is)) found.end)

    -- A digit in front, or the zero of a prefix.
    digit_first : m.digit part b ≡ true → is_signed m part stage ≡ true → gap_fits m part (has_digit stage) gap true ≡ true
        → Cut m part (after_digit stage gap (b == 48)) false text → Cut m part stage gap (b ∷ text)
    digit_first digit signed fits cut = go cut.prefix (unsigned part (after_digit stage gap (b == 48)) false text (grind arith) cut) where
      go : (prefix : List ℕ) → Found m part (after_digit stage gap (b == 48)) false [] prefix text → Cut m part stage gap (b ∷ text)
      go [] found = longer (after_digit stage gap (b == 48)) false true digit signed (λ run is. grind arith) (λ run. refl) found
      go (x ∷ []) found = cut_at part stage gap (b ∷ text) [] (b ∷ x ∷ []) found.digits found.more (ap (λ t. b ∷ t) found.whole)
          (grind arith) (let prefixed = found.prefixed in grind arith) found.run found.end
      go (z ∷ x ∷ more) found = absurd (let prefixed = found.prefixed in grind arith)

    -- A separator in front.
    separator_first : m.digit part b ≡ false → m.separator b ≡ true → is_signed m part stage ≡ true
        → ((not gap || m.flag (separators_in part).consecutive) && is_open m part (has_digit stage) (may_follow m stage)) ≡ true
        → Cut m part (after_mark stage) true text → Cut m part stage gap (b ∷ text)
    separator_first other separator signed fits cut = longer (after_mark stage) true false other signed
        (λ run is. grind arith) (λ run. refl) (plain part (after_mark stage) true text (grind arith) (grind arith) (grind arith) cut)

    -- A sign in front.
    sign_first : signs b ≡ true → (is_fresh stage && implies (forbids_plus m part) (not (b == 43))) ≡ true
        → Cut m part (after_mark stage) gap text → Cut m part stage gap (b ∷ text)
    sign_first one taken cut =
        let found = unsigned part (after_mark stage) gap text (grind arith) cut in
        cut_at part stage gap (b ∷ text) (b ∷ []) cut.prefix found.digits found.more (ap (λ t. b ∷ t) found.whole) (grind arith)
        (let prefixed = found.prefixed in grind arith) found.run found.end

    -- A prefix in front, whose zero has been read.
    prefix_first : m.prefix b ≡ true → is_bare stage ≡ true → Cut m part stages.Prefixed false text → Cut m part stage gap (b ∷ text)
    prefix_first prefix bare cut =
        let found = plain part stages.Prefixed false text refl refl refl cut in
        cut_at part stage gap (b ∷ text) [] (b ∷ []) found.digits found.more (ap (λ t. b ∷ t) found.whole)
        (grind arith) (and_from _ _ bare prefix) found.run found.end

  -- A decimal point in front.
  point_first : (part : Part) (stage : Stage) (gap : Bool) (b : ℕ) (text : List ℕ) → m.point b ≡ true
      → (ends m part stage gap && continues m part stage roles.Point) ≡ true
      → Cut m parts.Fraction (after_point (has_digit stage)) false text → Cut m part stage gap (b ∷ text)
  point_first parts.Integer stage gap b text point is cut =
      let both = and_parts _ (may_float m stage) is in
      let found = plain parts.Fraction (after_point (has_digit stage)) false text (grind arith) (grind arith) (grind arith) cut in
      ended_by parts.Integer stage gap (b ∷ text) (record found.more { point = b ∷ []; fraction = found.digits }) (ap (λ t. b ∷ t) found.whole) both.0
      (λ digits. let float = both.1 in let run = found.run in let end = found.end in grind arith)
  point_first _ stage gap b text point is cut = absurd (false≢true (and_parts _ false is).1)

  -- An exponent character in front.
  exponent_first : (part : Part) (stage : Stage) (gap : Bool) (b : ℕ) (text : List ℕ) → m.exponent_character b ≡ true
      → (ends m part stage gap && continues m part stage roles.Exponent) ≡ true → Cut m parts.Exponent stages.Mark false text → Cut m part stage gap (b ∷ text)
  exponent_first parts.Exponent stage gap b text character is cut = absurd (grind arith)
  exponent_first part stage gap b text character is cut =
      let both = and_parts _ (continues m part stage roles.Exponent) is in
      let found = unprefixed parts.Exponent stages.Mark false cut.sign cut.prefix text refl refl cut.found in
      let more = record found.more { point = []; fraction = []; exponent_character = b ∷ []; exponent_sign = cut.sign; exponent = found.digits } in
      ended_by part stage gap (b ∷ text) more (ap (λ t. b ∷ t) found.whole) both.0
      (λ digits. let scale = both.1 in let signed = found.signed in let run = found.run in let end = found.end in grind arith)

  module _ (C : Condition → Bool) where
    -- Nothing follows the suffix.
    ended : (s : Summary) (text : List ℕ) → s.ended ≡ true → Accepts C m (Some s) text → text ≡ []
    ended s [] over is = refl
    ended s (b ∷ text) over is = absurd (false≢true (sym (took C m s b (λ o. Accepts C m o text) (none_accepts C m text) is).going ∙ over))

    -- What is accepted can be cut into parts.
    pub cut_of : (stage : Stage) (gap : Bool) (text : List ℕ) → Accepts C m (Some (reading stage gap)) text → Cut m (part_of stage) stage gap text
    cut_of stage gap [] is = grind (arith, stopped, and_parts)
    cut_of stage gap (b ∷ text) is =
        let t = took C m (reading stage gap) b (λ o. Accepts C m o text) (none_accepts C m text) is in
        go t.role t.plays t.taken t.rest (λ stage gap. cut_of stage gap text) where
          part : Part
          part = part_of stage

          go : (r : Role) → role_at m part b ≡ Some r → takes m (reading stage gap) (b == 43) r ≡ true
              → Accepts C m (Some (after (reading stage gap) (b == 48) r)) text
              → ((stage : Stage) (gap : Bool) → Accepts C m (Some (reading stage gap)) text → Cut m (part_of stage) stage gap text)
              → Cut m part stage gap (b ∷ text)
          go roles.Digit role taken is cut = let all = and_parts (is_signed m part stage) _ taken in
              digit_first part stage gap b text (as_digit m part b role) all.0 (and_parts (gap_fits m part (has_digit stage) gap true) _ all.1).0
              (subst (λ part. Cut m part (after_digit stage gap (b == 48)) false text) (digit_part stage gap (b == 48)) (cut (after_digit stage gap
              (b == 48)) false is))
          go roles.Separator role taken is cut = let all = and_parts (is_signed m part stage) _ taken in
              separator_first part stage gap b text (no_digit m part b role) (as_role m part b _ role) all.0 all.1
              (subst (λ part. Cut m part (after_mark stage) true text) (mark_part stage) (cut (after_mark stage) true is))
          go roles.Sign role taken is cut = sign_first part stage gap b text (as_role m part b _ role) taken
              (subst (λ part. Cut m part (after_mark stage) gap text) (mark_part stage) (cut (after_mark stage) gap is))
          go roles.Prefix role taken is cut = prefix_first part stage gap b text (as_role m part b _ role) taken
              (subst (λ part. Cut m part stages.Prefixed false text) (sym (grind arith)) (cut stages.Prefixed false is))
          go roles.Point role taken is cut = point_first part stage gap b text (as_role m part b _ role) taken
              (subst (λ part. Cut m part (after_point (has_digit stage)) false text) (point_part (has_digit stage)) (cut (after_point
              (has_digit stage)) false is))
          go roles.Exponent role taken is cut = exponent_first part stage gap b text (as_role m part b _ role) taken (cut stages.Mark false is)
          go roles.Suffix role taken is cut = stopped part stage gap (b ∷ text) taken
              (subst (λ t. is_none_or_one m.suffix (b ∷ t) ≡ true) (sym (ended _ text refl is)) (as_role m part b _ role))
