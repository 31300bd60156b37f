-- The texts that are accepted with the conditions of a notation are its literals.
use Rattle.std.proofs.Common.{rules}
use Rattle.lexical_literal.proofs.Common.{Bool, ByteSet, Condition, Cuts, HasLengths, HasRoles, IsLiteral, IsSpelled, List, Literal, None, Notation, Option}
use Rattle.lexical_literal.proofs.Common.{Part, Piece, Reads, Role, Some, Stage, Summary, [], add, admits, after, and_from, and_parts, ap, arith}
use Rattle.lexical_literal.proofs.Common.{awaits_integer, cases_Bool, condition, count, digits_piece, eqb-true, false, false≢true, has_sizes, if◌then◌else◌}
use Rattle.lexical_literal.proofs.Common.{inl, inr, is_absent, is_fresh, is_negative, is_none_or_one, is_none_or_prefix, is_plus, is_present, lacks_prefix}
use Rattle.lexical_literal.proofs.Common.{length, nat_lt, nat_tests, no_condition, no_cuts, not, or_left, or_right, part_of, piece_of, refl, role_at, signs}
use Rattle.lexical_literal.proofs.Common.{start, step_by, subst, sym, takes, tally_by, text_of, true, ℕ, ◌&&◌, ◌++◌, ◌==◌, ◌||◌, ◌∙◌, ◌∷◌, ◌≡◌}
use Rattle.lexical_literal.specs.Additions.Scan.{is_first, needs_first}
use Rattle.lexical_literal.specs.Literal.{begins_with, may_begin}
use Rattle.lexical_util.specs.declared.feature_format.roles.Role.TheVariants as roles
use Rattle.lexical_util.specs.declared.format_flags.Part.TheVariants as parts
use Rattle.lexical_literal.specs.declared.step.Piece.TheVariants as pieces
use Rattle.lexical_literal.specs.declared.step.Stage.TheVariants as stages
use Rattle.lexical_literal.specs.declared.syntax.Condition.TheVariants as conditions
use Rattle.lexical_literal.proofs.LiteralLemmas.{all_cuts, spelled_arrives, spelled_from}
use Rattle.lexical_literal.proofs.WalkLemmas.{Accepts, Arrives, Took, added, arrives_byte, as_digit, digit_role, is_role, none_accepts, took}
use Rattle.lexical_literal.proofs.StepLemmas.{awaited_part, reading}

-- LENGTHS

-- The lengths that are counted are those of the parts.
pub has_lengths : (l : Literal) → HasLengths l (all_cuts l)
has_lengths l = grind (arith, added)

suffix_length : (l : Literal) → all_cuts l pieces.Suffix ≡ length l.suffix
suffix_length l = simp added (omega arith)

-- A part with bytes is there.
some_bytes : (x : List ℕ) → nat_lt 0 (length x) ≡ is_present x
some_bytes x0 = grind arith

-- But for the zero of a prefix, no piece gets shorter.
still : (c : Cuts) (part : Part) (r : Role) (q : Piece) → (q ≡ pieces.Integer → ⊥) → nat_lt 0 (c q) ≡ true → nat_lt 0 (count part (Some r) c q) ≡ true
still c part x2 q other some = grind arith

module _ (m : Notation) (h : HasRoles m) where
  abbrev C : Condition → Bool
  C = m.condition

  abbrev O : Condition → Bool
  O = no_condition

  stays : (o : Option Summary) (c : Cuts) (text : List ℕ) (q : Piece) → (q ≡ pieces.Integer → ⊥) → nat_lt 0 (c q) ≡ true
      → nat_lt 0 (tally_by O m o c text q) ≡ true
  stays o c [] q other some = some
  stays None c (b ∷ text) q other some = some
  stays (Some s) c (b ∷ text) q other some = go (role_at m (part_of s.stage) b) (λ c. stays (step_by O m s b) c text q other) where
    go : (r : Option Role) → ((c : Cuts) → nat_lt 0 (c q) ≡ true → nat_lt 0 (tally_by O m (step_by O m s b) c text q) ≡ true)
        → nat_lt 0 (tally_by O m (step_by O m s b) (count (part_of s.stage) r c) text q) ≡ true
    go None more = more c some
    go (Some r) more = more (count (part_of s.stage) (Some r) c) (still c (part_of s.stage) r q other some)

  -- WHAT IS ACCEPTED IS AS THE CONDITIONS REQUIRE

  -- `Shows s c` holds if the lengths `c` show whether the prefix and the suffix have been read.
  record Shows (s : Summary) (c : Cuts) : Type 0 where
    prefix : C conditions.BasePrefix ≡ true → (if lacks_prefix s.stage then not s.gap else nat_lt 0 (c pieces.Prefix)) ≡ true
    suffix : nat_lt 0 (c pieces.Suffix) ≡ s.ended

  shows_after : (s : Summary) (c : Cuts) (b : ℕ) (r : Role) → s.ended ≡ false → admits C s b r ≡ true → Shows s c
      → Shows (after s (b == 48) r) (count (part_of s.stage) (Some r) c)
  shows_after s c b r going admitted shows = grind arith

  counted : {P : Option Summary → Type 0} (s : Summary) (b : ℕ) (c : Cuts) (text : List ℕ) (t : Took C m s b P)
      → tally_by O m (Some s) c (b ∷ text) ≡ tally_by O m (Some (after s (b == 48) t.role)) (count (part_of s.stage) (Some t.role) c) text
  counted s b c text t = grind arith

  -- `Meets d` holds if the lengths `d` are as the conditions on the prefix and the suffix require.
  abbrev Meets : Cuts → Type 0
  Meets d = (C conditions.BasePrefix ≡ true → nat_lt 0 (d pieces.Prefix) ≡ true) × (C conditions.BaseSuffix ≡ true → nat_lt 0 (d pieces.Suffix) ≡ true)

  meets : (s : Summary) (c : Cuts) (text : List ℕ) → Shows s c → Accepts C m (Some s) text → Meets (tally_by O m (Some s) c text)
  meets s c [] shows is = grind (arith, and_parts)
  meets s c (b ∷ text) shows is =
      let t = took C m s b (λ o. Accepts C m o text) (none_accepts C m text) is in
      subst Meets (sym (counted s b c text t))
      (meets (after s (b == 48) t.role) (count (part_of s.stage) (Some t.role) c) text (shows_after s c b t.role t.going t.admitted shows) t.rest)

  positive : (sign rest : List ℕ) → is_none_or_one signs sign ≡ true → C conditions.NegativeSign ≡ true → Accepts C m (Some start) (sign ++ rest)
      → (is_absent sign || is_plus sign) ≡ true
  positive [] rest one set is = refl
  positive (b ∷ []) rest one set is =
      let t = took C m start b (λ o. Accepts C m o rest) (none_accepts C m rest) is in
      let same : t.role ≡ roles.Sign = let a = t.plays in let b = is_role m parts.Integer b h roles.Sign (λ e. cc) one in cc in
      let admitted = subst (λ r. admits C start b r ≡ true) same t.admitted in grind arith
  positive (b ∷ x ∷ sign) rest one set is = absurd (false≢true one)

  -- `fits_first b` is true if `b` is a digit that the conditions on the first digit allow.
  abbrev fits_first : ByteSet
  fits_first b = m.digit parts.Integer b && is_first m b

  sign_counts : (b : ℕ) (rest : List ℕ) → role_at m parts.Integer b ≡ Some roles.Sign
      → nat_lt 0 (tally_by O m (Some start) no_cuts (b ∷ rest) pieces.Sign) ≡ true
  sign_counts b rest sign = grind (arith, stays)

  -- What is accepted behind a sign, or without one, begins with such a digit.
  first_behind : (stage : Stage) (text : List ℕ) → awaits_integer stage ≡ true → needs_first m ≡ true
      → (is_fresh stage ≡ true → nat_lt 0 (tally_by O m (Some start) no_cuts text pieces.Sign) ≡ false)
      → Accepts C m (Some (reading stage false)) text → begins_with fits_first text ≡ true
  first_behind stage [] begin needs unsigned is = absurd (grind arith)
  first_behind stage (b ∷ text) begin needs unsigned is =
      let s = reading stage false in
      let t = took C m s b (λ o. Accepts C m o text) (none_accepts C m text) is in
      go t.role (subst (λ part. role_at m part b ≡ Some t.role) (awaited_part stage begin) t.plays) t.taken t.admitted where
        go : (r : Role) → role_at m parts.Integer b ≡ Some r → takes m (reading stage false) (b == 43) r ≡ true
            → admits C (reading stage false) b r ≡ true → fits_first b ≡ true
        go roles.Digit plays taken admitted = and_from _ _ (as_digit m parts.Integer b plays) (grind arith)
        go roles.Sign plays taken admitted = absurd (false≢true (sym (unsigned (grind arith)) ∙ sign_counts b text plays))
        go _ plays taken admitted = absurd (grind arith)

  first_accepted : (sign rest : List ℕ) → is_none_or_one signs sign ≡ true → needs_first m ≡ true
      → (is_absent sign ≡ true → nat_lt 0 (tally_by O m (Some start) no_cuts (sign ++ rest) pieces.Sign) ≡ false)
      → Accepts C m (Some start) (sign ++ rest) → begins_with fits_first rest ≡ true
  first_accepted [] rest one needs unsigned is = first_behind stages.Start rest refl needs unsigned is
  first_accepted (b ∷ []) rest one needs unsigned is =
      let t = took C m start b (λ o. Accepts C m o rest) (none_accepts C m rest) is in
      let same : t.role ≡ roles.Sign = let a = t.plays in let b = is_role m parts.Integer b h roles.Sign (λ e. cc) one in cc in
      first_behind stages.Empty rest refl needs (λ fresh. absurd (false≢true fresh))
      (subst (λ r. Accepts C m (Some (after start (b == 48) r)) rest) same t.rest)
  first_accepted (b ∷ x ∷ sign) rest one needs unsigned is = absurd (false≢true one)

  -- Such a digit is one that each of the conditions allows.
  begins_by : (c : Condition) (text : List ℕ) → C c ≡ true → begins_with fits_first text ≡ true
      → begins_with (λ b. m.digit parts.Integer b && may_begin c b) text ≡ true
  begins_by c text set is = grind arith

  -- A literal that is as both conditions require begins with such a digit.
  begins_both : (text : List ℕ)
      → (C conditions.LeadingZero ≡ true → begins_with (λ b. m.digit parts.Integer b && may_begin conditions.LeadingZero b) text ≡ true)
      → (C conditions.DecimalFirstDigit ≡ true → begins_with (λ b. m.digit parts.Integer b && may_begin conditions.DecimalFirstDigit b) text ≡ true)
      → needs_first m ≡ true → begins_with fits_first text ≡ true
  begins_both text zero decimal needs = grind arith

  -- What is accepted is a literal.
  pub literal_from : has_sizes m ≡ false → (text : List ℕ) → Accepts C m (Some start) text → (l : Literal) × Reads m l text
  literal_from no_sizes text is =
      let found = spelled_from m h C text is in
      let l = found.0 in
      let spelled = found.2 in
      let lengths = has_lengths l in
      let tallied : tally_by O m (Some start) no_cuts text ≡ all_cuts l = ap (tally_by O m (Some start) no_cuts) found.1 ∙ (spelled_arrives m h l spelled).1 in
      let met = subst Meets tallied (meets start no_cuts text (record { prefix = λ set. refl; suffix = refl }) is) in
      (l, record { whole = found.1; literal = record { spelled = spelled; conditions = each l text found.1 spelled is lengths met } }) where
        first : (l : Literal) (text : List ℕ) → text ≡ text_of l → IsSpelled m l → Accepts C m (Some start) text → HasLengths l (all_cuts l)
            → needs_first m ≡ true → begins_with fits_first (text_of (record l { sign = [] })) ≡ true
        first l text whole spelled is lengths needs = first_accepted l.sign _ spelled.sign needs
            (λ absent. let none : is_present l.sign ≡ false = ap not absent in
            ap (λ (c : Cuts). nat_lt 0 (c pieces.Sign)) (spelled_arrives m h l spelled).1 ∙ ap (nat_lt 0) (sym lengths.sign) ∙ some_bytes l.sign ∙ none)
            (subst (Accepts C m (Some start)) whole is)

        each : (l : Literal) (text : List ℕ) → text ≡ text_of l → IsSpelled m l → Accepts C m (Some start) text → HasLengths l (all_cuts l)
            → Meets (all_cuts l) → (c : Condition) → C c ≡ true → condition c m l ≡ true
        each l text whole spelled is lengths met conditions.BasePrefix set = sym (some_bytes l.prefix) ∙ ap (nat_lt 0) lengths.prefix ∙ met.0 set
        each l text whole spelled is lengths met conditions.BaseSuffix set = sym (some_bytes l.suffix) ∙ ap (nat_lt 0) (sym (suffix_length l)) ∙ met.1 set
        each l text whole spelled is lengths met conditions.NegativeSign set = positive l.sign _ spelled.sign set (subst (Accepts C m (Some start)) whole is)
        each l text whole spelled is lengths met conditions.HigherGroupSize set = refl
        each l text whole spelled is lengths met conditions.LeadingZero set =
            begins_by conditions.LeadingZero (text_of (record l { sign = [] })) set (first l text whole spelled is lengths (or_left _ _ set))
        each l text whole spelled is lengths met conditions.DecimalFirstDigit set =
            begins_by conditions.DecimalFirstDigit (text_of (record l { sign = [] })) set
            (first l text whole spelled is lengths (or_right (C conditions.LeadingZero) _ set))
        each l text whole spelled is lengths met _ set = absurd (grind arith)

  -- A LITERAL IS ACCEPTED

  -- `Calm s` holds if the conditions refuse no byte that may follow otherwise.
  record Calm (s : Summary) : Type 0 where
    prefix : (C conditions.BasePrefix && lacks_prefix s.stage) ≡ false
    sign : (C conditions.NegativeSign && (is_fresh s.stage && is_negative (part_of s.stage) false roles.Sign)) ≡ false
    first : (needs_first m && awaits_integer s.stage) ≡ false

  calm_admits : (s : Summary) (b : ℕ) (r : Role) → Calm s → takes m s (b == 43) r ≡ true → admits C s b r ≡ true
  calm_admits s b x2 calm taken = grind arith

  calm_after : (s : Summary) (zero : Bool) (r : Role) → Calm s → Calm (after s zero r)
  calm_after s zero r calm = search rules

  peel : (s : Summary) (b : ℕ) (c : Cuts) (text : List ℕ) (d : Cuts) → Arrives O m (Some s) c (b ∷ text) d
      → Took O m s b (λ o. Arrives O m o (count (part_of s.stage) (role_at m (part_of s.stage) b) c) text d)
  peel s b c text d is = grind (arith, took, none_accepts)

  module _ (d : Cuts) (has_suffix : C conditions.BaseSuffix ≡ true → nat_lt 0 (d pieces.Suffix) ≡ true) where
    finished : (s : Summary) (c : Cuts) → (C conditions.BasePrefix && lacks_prefix s.stage) ≡ false → nat_lt 0 (c pieces.Suffix) ≡ s.ended
        → Arrives O m (Some s) c [] d → Arrives C m (Some s) c [] d
    finished s c prefix suffix is = grind arith

    shown : (s : Summary) (c : Cuts) (zero : Bool) (r : Role) → s.ended ≡ false → nat_lt 0 (c pieces.Suffix) ≡ s.ended
        → nat_lt 0 (count (part_of s.stage) (Some r) c pieces.Suffix) ≡ (after s zero r).ended
    shown s c zero r going suffix = grind (arith, nat_tests)

    -- What arrives without conditions arrives with them, where they refuse nothing.
    lift : (s : Summary) (c : Cuts) (text : List ℕ) → Calm s → nat_lt 0 (c pieces.Suffix) ≡ s.ended → Arrives O m (Some s) c text d
        → Arrives C m (Some s) c text d
    lift s c [] calm suffix is = finished s c calm.prefix suffix is
    lift s c (b ∷ text) calm suffix is =
        let t = peel s b c text d is in
        let more = subst (λ o. Arrives O m (Some (after s (b == 48) t.role)) (count (part_of s.stage) o c) text d) t.plays t.rest in
        arrives_byte C m s b t.role c text d t.going t.plays t.taken (calm_admits s b t.role calm t.taken)
        (lift (after s (b == 48) t.role) (count (part_of s.stage) (Some t.role) c) text (calm_after s (b == 48) t.role calm)
        (shown s c (b == 48) t.role t.going suffix) more)

    -- One byte whose role is known, and what follows it.
    one_byte : (s : Summary) (b : ℕ) (r : Role) (c e : Cuts) (text : List ℕ) → count (part_of s.stage) (Some r) c ≡ e → role_at m (part_of s.stage) b ≡ Some r
        → admits C s b r ≡ true → (Arrives O m (Some (after s (b == 48) r)) e text d → Arrives C m (Some (after s (b == 48) r)) e text d)
        → Arrives O m (Some s) c (b ∷ text) d → Arrives C m (Some s) c (b ∷ text) d
    one_byte s b r c e text counts role admitted more is =
        let t = peel s b c text d is in
        let same : t.role ≡ r = let a = t.plays in cc in
        let rest = subst (λ r. Arrives O m (Some (after s (b == 48) r)) (count (part_of s.stage) (Some r) c) text d) same
        (subst (λ o. Arrives O m (Some (after s (b == 48) t.role)) (count (part_of s.stage) o c) text d) t.plays t.rest) in
        arrives_byte C m s b r c text d t.going role (subst (λ r. takes m s (b == 43) r ≡ true) same t.taken) admitted
        (subst (λ e. Arrives C m (Some (after s (b == 48) r)) e text d) (sym counts)
        (more (subst (λ e. Arrives O m (Some (after s (b == 48) r)) e text d) counts rest)))

    -- The first byte behind the sign, which is none, where no prefix is required.
    first_byte : (stage : Stage) (c : Cuts) (text : List ℕ) → C conditions.BasePrefix ≡ false → awaits_integer stage ≡ true → nat_lt 0 (c pieces.Suffix) ≡ false
        → (is_fresh stage ≡ true → nat_lt 0 (d pieces.Sign) ≡ false) → (needs_first m ≡ true → begins_with fits_first text ≡ true)
        → Arrives O m (Some (reading stage false)) c text d → Arrives C m (Some (reading stage false)) c text d
    first_byte stage c [] none begin suffix unsigned first is = finished (reading stage false) c (grind arith) suffix is
    first_byte stage c (b ∷ text) none begin suffix unsigned first is =
        let s = reading stage false in
        let t = peel s b c text d is in
        let more = subst (λ o. Arrives O m (Some (after s (b == 48) t.role)) (count (part_of stage) o c) text d) t.plays t.rest in
        let other : (t.role ≡ roles.Sign) → ⊥ = λ sign.
        let fresh : is_fresh stage ≡ true = let taken = subst (λ r. takes m s (b == 43) r ≡ true) sign t.taken in grind arith in
        let counted = subst (λ r. Arrives O m (Some (after s (b == 48) r)) (count (part_of stage) (Some r) c) text d) sign more in
        false≢true (sym (unsigned fresh) ∙ ap (λ (c : Cuts). nat_lt 0 (c pieces.Sign)) (sym counted.1)
        ∙ stays (Some (after s (b == 48) roles.Sign)) (add c (piece_of (part_of stage) roles.Sign)) text pieces.Sign (λ e. cc)
        (subst (λ part. nat_lt 0 (add c (piece_of part roles.Sign) pieces.Sign) ≡ true) (sym (awaited_part stage begin)) (grind (arith, nat_tests)))) in
        let digit : needs_first m ≡ true → (t.role ≡ roles.Digit) × (is_first m b ≡ true) = λ needs.
        let both = and_parts (m.digit parts.Integer b) _ (first needs) in (
          let a = t.plays in
              let b = digit_role m (part_of stage) b (subst (λ part. m.digit part b ≡ true) (sym (awaited_part stage begin)) both.0) in cc,
          both.1,
        ) in
        arrives_byte C m s b t.role c text d t.going t.plays t.taken (admitted t.role other digit)
        (lift (after s (b == 48) t.role) (count (part_of stage) (Some t.role) c) text (calm t.role other digit t.taken)
        (shown s c (b == 48) t.role refl suffix) more) where
          admitted : (r : Role) → (r ≡ roles.Sign → ⊥) → (needs_first m ≡ true → (r ≡ roles.Digit) × (is_first m b ≡ true))
              → admits C (reading stage false) b r ≡ true
          admitted r other first = elim (cases_Bool (needs_first m)) [
            | inl needs ↦ let both = first needs in grind arith
            | inr free ↦ grind arith
          ]

          calm : (r : Role) → (r ≡ roles.Sign → ⊥) → (needs_first m ≡ true → (r ≡ roles.Digit) × (is_first m b ≡ true))
              → takes m (reading stage false) (b == 43) r ≡ true → Calm (after (reading stage false) (b == 48) r)
          calm r other first taken = elim (cases_Bool (needs_first m)) [
            | inl needs ↦ let both = first needs in grind arith
            | inr free ↦ grind arith
          ]

    module _ (prefix rest : List ℕ) (is_prefix : is_none_or_prefix m.prefix prefix ≡ true)
        (has_prefix : C conditions.BasePrefix ≡ true → is_present prefix ≡ true) where
      -- The prefix, where it is required.
      prefixed : (stage : Stage) (c : Cuts) (x : List ℕ) → C conditions.BasePrefix ≡ true → awaits_integer stage ≡ true → nat_lt 0 (c pieces.Suffix) ≡ false
          → is_none_or_prefix m.prefix x ≡ true → is_present x ≡ true
          → Arrives O m (Some (reading stage false)) c (x ++ rest) d → Arrives C m (Some (reading stage false)) c (x ++ rest) d
      prefixed stage c (z ∷ b ∷ []) set begin suffix one some is =
          let both = and_parts (z == 48) _ one in
          let zero = eqb-true z 48 both.0 in
          let s = reading stage false in
          let bare : after s true roles.Digit ≡ reading stages.Bare false = grind arith in
          subst (λ z. Arrives C m (Some s) c (z ∷ b ∷ rest) d) (sym zero)
          (one_byte s 48 roles.Digit c (add c pieces.Integer) (b ∷ rest) (ap (λ part. add c (digits_piece part)) (awaited_part stage begin))
          (digit_role m (part_of stage) 48 (h.zero_is_digit (part_of stage))) (grind arith)
          (λ more. subst (λ s. Arrives C m (Some s) (add c pieces.Integer) (b ∷ rest) d) (sym bare)
          (one_byte (reading stages.Bare false) b roles.Prefix (add c pieces.Integer) _ rest refl
          (is_role m parts.Integer b h roles.Prefix (λ e. cc) both.1) (grind arith) (λ more. lift (reading stages.Prefixed false) _ rest
          (record { prefix = grind arith; sign = grind arith; first = grind arith }) suffix more)
          (subst (λ s. Arrives O m (Some s) (add c pieces.Integer) (b ∷ rest) d) bare more))) (subst (λ z. Arrives O m (Some s) c (z ∷ b ∷ rest) d) zero is))
      prefixed stage c _ set begin suffix one some is = absurd (grind arith)

      begun : (stage : Stage) (c : Cuts) → awaits_integer stage ≡ true → nat_lt 0 (c pieces.Suffix) ≡ false → (is_fresh stage ≡ true
          → nat_lt 0 (d pieces.Sign) ≡ false) → (needs_first m ≡ true → begins_with fits_first (prefix ++ rest) ≡ true)
          → Arrives O m (Some (reading stage false)) c (prefix ++ rest) d → Arrives C m (Some (reading stage false)) c (prefix ++ rest) d
      begun stage c begin suffix unsigned first is = elim (cases_Bool (C conditions.BasePrefix)) [
        | inl set ↦ prefixed stage c prefix set begin suffix is_prefix (has_prefix set) is
        | inr none ↦ first_byte stage c (prefix ++ rest) none begin suffix unsigned first is
      ]

      signed : (sign : List ℕ) → is_none_or_one signs sign ≡ true → (C conditions.NegativeSign ≡ true → (is_absent sign || is_plus sign) ≡ true)
          → nat_lt 0 (d pieces.Sign) ≡ is_present sign → (needs_first m ≡ true → begins_with fits_first (prefix ++ rest) ≡ true)
          → Arrives O m (Some start) no_cuts (sign ++ (prefix ++ rest)) d → Arrives C m (Some start) no_cuts (sign ++ (prefix ++ rest)) d
      signed [] one plus count first is = begun stages.Start no_cuts refl refl (λ fresh. count) first is
      signed (b ∷ []) one plus count first is =
          one_byte start b roles.Sign no_cuts _ (prefix ++ rest) refl (is_role m parts.Integer b h roles.Sign (λ e. cc) one) (let need = plus in grind arith)
          (begun stages.Empty (add no_cuts pieces.Sign) refl refl (λ fresh. absurd (false≢true fresh)) first) is
      signed (b ∷ x ∷ sign) one plus count first is = absurd (false≢true one)

  -- A literal is accepted, and its parts are counted.
  pub literal_arrives : (l : Literal) → IsLiteral m l → Arrives C m (Some start) no_cuts (text_of l) (all_cuts l)
  literal_arrives l is =
      let lengths = has_lengths l in
      signed (all_cuts l) (λ set. ap (nat_lt 0) (suffix_length l) ∙ some_bytes l.suffix ∙ is.conditions conditions.BaseSuffix set)
      l.prefix _ is.spelled.prefix (is.conditions conditions.BasePrefix) l.sign is.spelled.sign (is.conditions conditions.NegativeSign)
      (ap (nat_lt 0) (sym lengths.sign) ∙ some_bytes l.sign)
      (begins_both _ (is.conditions conditions.LeadingZero) (is.conditions conditions.DecimalFirstDigit)) (spelled_arrives m h l is.spelled)
