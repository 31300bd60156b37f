-- Each byte of a literal plays a role, and a literal with a required prefix begins with it.
use Rattle.lexical_forms.proofs.Common.{All, All-append, All-from_recursion, All-get_or, All-weaker, AllIn, ByteSet, Grammar, IsSpare, IsFront, IsTrue}
use Rattle.lexical_forms.proofs.Common.{LacksZero, List, Literal, NoLiteral, None, Notation, Part, PlaysNoRole, Reads, Role, [], ap, arith, begins_with}
use Rattle.lexical_forms.proofs.Common.{cases_lt, false, false≢true, get_or, get_or-take, get_or_append_left, inl, inr, is_none_or_one, is_none_or_prefix}
use Rattle.lexical_forms.proofs.Common.{is_present, length, length-append, length-take-le, may_begin, nat_tests, notation_of, prefix_byte, refl, role_at}
use Rattle.lexical_forms.proofs.Common.{run_byte, set_of_role, sign_size, signs, subst, sym, take, text_of, true, ℕ, ◌&&◌, ◌++◌, ◌+◌, ◌<◌, ◌∙◌, ◌∷◌, ◌≡◌, ◌≤◌}
use Rattle.lexical_forms.proofs.Common.{◌⊎◌}
use Rattle.lexical_util.specs.declared.feature_format.roles.Role.TheVariants as roles
use Rattle.lexical_util.specs.declared.format_flags.Part.TheVariants as parts
use Rattle.lexical_literal.specs.declared.syntax.Condition.TheVariants as conditions
use Rattle.lexical_literal.proofs.PartLemmas.{parts_have_roles}
use Rattle.lexical_literal.proofs.WalkLemmas.{no_role}

-- `rest_of l` is what follows the sign and the prefix of `l`.
abbrev pub rest_of : Literal → List ℕ
rest_of l = l.integer ++ (l.point ++ (l.fraction ++ (l.exponent_character ++ (l.exponent_sign ++ (l.exponent ++ l.suffix)))))

module _ (m : Notation) where
  abbrev NotSpare : ℕ → Type 0
  NotSpare byte = IsSpare m byte → ⊥

  abbrev Plays : ℕ → Type 0
  Plays byte = PlaysNoRole m byte → ⊥

  -- What holds of a set holds of bytes of the set.
  each : (P : ℕ → Type 0) (A : ByteSet) → ((byte : ℕ) → IsTrue (A byte) → P byte) → (bytes : List ℕ) → AllIn A bytes → All P bytes
  each P A has bytes all = All-weaker (λ byte. IsTrue (A byte)) P has bytes (All-from_recursion (λ byte. IsTrue (A byte)) bytes all)

  not_spare : (r : Role) → (r ≡ roles.Prefix → ⊥) → (b : ℕ) → IsTrue (set_of_role m r b) → NotSpare b
  not_spare r other b has none = false≢true (sym (none r other) ∙ has)

  run_not_spare : (part : Part) (b : ℕ) → IsTrue (run_byte m part b) → NotSpare b
  run_not_spare part b has none = let digit = none roles.Digit (λ same. cc) in let separator = none roles.Separator (λ same. cc)
      in go part has digit separator where
        go : (part : Part) → IsTrue (run_byte m part b) → set_of_role m roles.Digit b ≡ false → set_of_role m roles.Separator b ≡ false → ⊥
        go parts.Integer has digit separator = grind arith
        go parts.Fraction has digit separator = grind arith
        go parts.Exponent has digit separator = grind arith

  -- Behind its sign and its prefix, a literal has no spare byte.
  pub rest_known : (l : Literal) (text : List ℕ) → Reads m l text → All NotSpare (rest_of l)
  rest_known l text reads =
      let is = parts_have_roles m l reads.literal.spelled in
      All-append NotSpare l.integer _ (each NotSpare (run_byte m parts.Integer) (run_not_spare parts.Integer) l.integer is.integer)
      (All-append NotSpare l.point _ (each NotSpare m.point (not_spare roles.Point (λ same. cc)) l.point is.point)
      (All-append NotSpare l.fraction _ (each NotSpare (run_byte m parts.Fraction) (run_not_spare parts.Fraction) l.fraction is.fraction)
      (All-append NotSpare l.exponent_character _
      (each NotSpare m.exponent_character (not_spare roles.Exponent (λ same. cc)) l.exponent_character is.exponent_character)
      (All-append NotSpare l.exponent_sign _ (each NotSpare signs (not_spare roles.Sign (λ same. cc)) l.exponent_sign is.exponent_sign)
      (All-append NotSpare l.exponent _ (each NotSpare (run_byte m parts.Exponent) (run_not_spare parts.Exponent) l.exponent is.exponent)
      (each NotSpare m.suffix (not_spare roles.Suffix (λ same. cc)) l.suffix is.suffix))))))

  plays_prefix : (b : ℕ) → IsTrue (prefix_byte m b) → Plays b
  plays_prefix b has none = let no = none.none roles.Prefix in let zero = none.not_zero in grind (arith, nat_tests)

  literal_plays : (l : Literal) (text : List ℕ) → Reads m l text → All Plays (text_of l)
  literal_plays l text reads =
      let is = parts_have_roles m l reads.literal.spelled in
      All-append Plays l.sign _ (each Plays signs (λ b has none. false≢true (sym (none.none roles.Sign) ∙ has)) l.sign is.sign)
      (All-append Plays l.prefix _ (each Plays (prefix_byte m) plays_prefix l.prefix is.prefix)
      (All-weaker NotSpare Plays (λ b known none. known (λ r other. none.none r)) (rest_of l) (rest_known l text reads)))

  -- A text with a byte that plays no role is not a literal.
  pub no_role_excludes : (text : List ℕ) (i : ℕ) → i < length text → PlaysNoRole m (get_or text i 0) → NoLiteral m text
  no_role_excludes text i below none l reads =
      All-get_or Plays text i 0 below (subst (All Plays) (sym reads.whole) (literal_plays l text reads)) none

  -- `BeginsPrefixed text` holds if a zero and the base prefix are behind the sign of `text`.
  pub record BeginsPrefixed (text : List ℕ) : Type 0 where
    pub inside : sign_size text + 1 < length text
    pub zero : get_or text (sign_size text) 0 ≡ 48
    pub prefix : m.prefix (get_or text (sign_size text + 1) 0) ≡ true

  begins : (sign prefix rest : List ℕ) → IsTrue (is_none_or_one signs sign) → IsTrue (is_none_or_prefix m.prefix prefix) → IsTrue (is_present prefix)
      → BeginsPrefixed (sign ++ (prefix ++ rest))
  begins [] (first ∷ byte ∷ []) rest one is here = grind (arith, nat_tests)
  begins (sign ∷ []) (first ∷ byte ∷ []) rest one is here = grind (arith, nat_tests)
  begins sign prefix rest one is here = grind (arith, nat_tests)

  first_zero : (sign rest : List ℕ) → IsTrue (is_none_or_one signs sign)
      → IsTrue (begins_with (λ byte. m.digit parts.Integer byte && may_begin conditions.LeadingZero byte) rest)
      → get_or (sign ++ rest) (sign_size (sign ++ rest)) 0 ≡ 48
  first_zero [] (byte ∷ rest) one is = grind (arith, nat_tests)
  first_zero (sign ∷ []) (byte ∷ rest) one is = grind (arith, nat_tests)
  first_zero sign rest one is = grind (arith, nat_tests)

  -- A literal with a required prefix begins with it.
  pub prefix_begins : (l : Literal) (text : List ℕ) → Reads m l text → IsTrue (m.condition conditions.BasePrefix) → BeginsPrefixed text
  prefix_begins l text reads required = subst BeginsPrefixed (sym reads.whole)
      (begins l.sign l.prefix _ reads.literal.spelled.sign reads.literal.spelled.prefix (reads.literal.conditions conditions.BasePrefix required))

  -- A literal begins with a zero if a prefix or a leading zero is required.
  pub zero_begins : (l : Literal) (text : List ℕ) → Reads m l text
      → IsTrue (m.condition conditions.BasePrefix) ⊎ IsTrue (m.condition conditions.LeadingZero) → get_or text (sign_size text) 0 ≡ 48
  zero_begins l text reads (inl required) = (prefix_begins l text reads required).zero
  zero_begins l text reads (inr required) = subst (λ t. get_or t (sign_size t) 0 ≡ 48) (sym reads.whole)
      (first_zero l.sign _ reads.literal.spelled.sign (reads.literal.conditions conditions.LeadingZero required))

-- The sign of a text that goes on otherwise behind some bytes.
pub front_sign : (text rest : List ℕ) (more : ℕ) → more ≤ length text → 0 < more → sign_size (take more text ++ rest) ≡ sign_size text
front_sign [] rest more within some = omega (arith, within, some)
front_sign (byte ∷ text) rest ℕ.zero within some = omega (arith, some)
front_sign (byte ∷ text) rest (ℕ.suc more) within some = refl

-- Some literal begins with the first `n` bytes of `text`.
module _ (m : Notation) (text : List ℕ) (n : ℕ) (within : n ≤ length text) (front : IsFront m (take n text)) where
  abbrev whole : List ℕ
  whole = take n text ++ front.more

  pub same_byte : (i : ℕ) → i < n → get_or whole i 0 ≡ get_or text i 0
  same_byte i below = get_or_append_left (take n text) front.more 0 i (rw (length-take-le n text within) below) ∙ get_or-take n text i 0 below

  pub longer : n ≤ length whole
  longer = let size = length-take-le n text within in let both = length-append (take n text) front.more in omega (arith, size, both)

  -- It ends before a byte that plays no role.
  pub near_no_role : (i : ℕ) → PlaysNoRole m (get_or text i 0) → n ≤ i
  near_no_role i none = elim (cases_lt i n) [
    | inl below ↦ absurd (no_role_excludes m whole i (omega (arith, below, longer)) (subst (PlaysNoRole m) (sym (same_byte i below)) none)
        front.literal front.reads)
    | inr near ↦ near
  ]

  pub same_sign : 0 < n → sign_size whole ≡ sign_size text
  same_sign some = front_sign text front.more n within some

  -- It ends before the first byte behind the sign if that is not a zero that is required.
  pub near_zero : LacksZero m text → n ≤ sign_size text
  near_zero lacks = elim (cases_lt (sign_size text) n) [
    | inl below ↦ absurd (lacks.other (sym (same_byte (sign_size text) below) ∙ ap (λ i. get_or whole i 0) (sym (same_sign (omega (arith, below))))
        ∙ zero_begins m front.literal whole front.reads lacks.required))
    | inr near ↦ near
  ]

  -- It ends before the second byte behind the sign if that is not the letter of a required prefix.
  pub near_letter : IsTrue (m.condition conditions.BasePrefix) → m.prefix (get_or text (sign_size text + 1) 0) ≡ false → n ≤ sign_size text + 1
  near_letter required none = elim (cases_lt (sign_size text + 1) n) [
    | inl below ↦ absurd (false≢true (sym none ∙ ap m.prefix (sym (same_byte (sign_size text + 1) below)
        ∙ ap (λ k. get_or whole (k + 1) 0) (sym (same_sign (omega (arith, below)))))
        ∙ (prefix_begins m front.literal whole front.reads required).prefix))
    | inr near ↦ near
  ]

-- A byte that has no role behind the beginning of the integer, and is no digit of an exponent.
module _ (g : Grammar) (b : ℕ) where
  none_of : role_at (notation_of g) parts.Integer b ≡ None → (notation_of g).digit parts.Exponent b ≡ false → (r : Role)
      → set_of_role (notation_of g) r b ≡ false
  none_of first digit roles.Digit = grind arith
  none_of first digit r = no_role (notation_of g) parts.Integer b r (λ same. cc) first

  pub plays_none : role_at (notation_of g) parts.Integer b ≡ None → (notation_of g).digit parts.Exponent b ≡ false → (b ≡ 48 → ⊥)
      → PlaysNoRole (notation_of g) b
  plays_none first digit zero = record { not_zero = zero; none = none_of first digit }
