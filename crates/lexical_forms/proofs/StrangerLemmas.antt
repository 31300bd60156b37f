-- A stranger: a byte that plays no role behind the base prefix, and its other case neither.
use Rattle.lexical_forms.proofs.Common.{All, All-get_or, AreFalse, Bool, ByteSet, Grammar, IsExcluded, IsFront, IsSilent, IsSpare, IsStranger, IsTrue}
use Rattle.lexical_forms.proofs.Common.{IsValidUpTo, IsWithin, LacksZero, List, NoLiteral, Notation, PlaysNoRole, Reads, Role, [], ap, arith}
use Rattle.lexical_forms.proofs.Common.{cases_lt, false, false≢true, get_or, inl, inr, is_in, is_none_or_one, is_none_or_prefix, is_other_prefix, le_antisymm}
use Rattle.lexical_forms.proofs.Common.{length, nat_lt, nat_tests, not, notation_of, other_case, position, radix_of, raw, reach, refl, set_of_role, sign_size}
use Rattle.lexical_forms.proofs.Common.{signs, slice_get, slice_get-get_or, subst, sym, take, take_all, text_of, true, unwrap_or, ℕ, ◌&&◌, ◌++◌, ◌+◌, ◌<◌}
use Rattle.lexical_forms.proofs.Common.{◌==◌, ◌∙◌, ◌∷◌, ◌≡◌, ◌≤◌}
use Rattle.lexical_base.specs.Digits.{byte_value, digit_characters, uppercase}
use Rattle.lexical_util.specs.Layout as layout
use Rattle.lexical_util.specs.Unfoldable.{cased}
use Rattle.lexical_util.specs.declared.feature_format.roles.Role.TheVariants as roles
use Rattle.lexical_util.specs.declared.format_flags.Part.TheVariants as parts
use Rattle.lexical_literal.specs.declared.syntax.Condition.TheVariants as conditions
use Rattle.lexical_forms.proofs.ExcludeLemmas.{longer, near_letter, near_no_role, near_zero, no_role_excludes, prefix_begins, rest_known, rest_of, same_byte}
use Rattle.lexical_forms.proofs.ExcludeLemmas.{same_sign, zero_begins}
use Rattle.lexical_forms.proofs.OpeningLemmas.{begins_whole, no_empty}

module _ (m : Notation) where
  behind_at : (xs ys rest : List ℕ) (i : ℕ) → length xs + length ys ≤ i → i < length (xs ++ (ys ++ rest)) → All (λ b. IsSpare m b → ⊥) rest
      → IsSpare m (get_or (xs ++ (ys ++ rest)) i 0) → ⊥
  behind_at [] [] rest i low below all none = All-get_or (λ b. IsSpare m b → ⊥) rest i 0 below all none
  behind_at [] (y ∷ ys) rest ℕ.zero low below all none = omega (arith, low)
  behind_at [] (y ∷ ys) rest (ℕ.suc i) low below all none = behind_at [] ys rest i (omega (arith, low)) (omega (arith, below)) all none
  behind_at (x ∷ xs) ys rest ℕ.zero low below all none = omega (arith, low)
  behind_at (x ∷ xs) ys rest (ℕ.suc i) low below all none = behind_at xs ys rest i (omega (arith, low)) (omega (arith, below)) all none

  fits : (sign prefix rest : List ℕ) → IsTrue (is_none_or_one signs sign) → IsTrue (is_none_or_prefix m.prefix prefix)
      → length sign + length prefix ≤ sign_size (sign ++ (prefix ++ rest)) + 2
  fits [] [] rest one is = omega arith
  fits [] (first ∷ byte ∷ []) rest one is = omega arith
  fits (sign ∷ []) [] rest one is = grind (arith, nat_tests)
  fits (sign ∷ []) (first ∷ byte ∷ []) rest one is = grind (arith, nat_tests)
  fits sign prefix rest one is = grind (arith, nat_tests)

  -- A text with a spare byte behind the place of the prefix is not a literal.
  pub spare_excludes : (text : List ℕ) (i : ℕ) → sign_size text + 1 < i → i < length text → IsSpare m (get_or text i 0) → NoLiteral m text
  spare_excludes text i far below none l reads = go text far below none (reads.whole) where
    go : (t : List ℕ) → sign_size t + 1 < i → i < length t → IsSpare m (get_or t i 0) → t ≡ text_of l → ⊥
    go t far below none whole =
        let size = fits l.sign l.prefix (rest_of l) reads.literal.spelled.sign reads.literal.spelled.prefix in
        let far = subst (λ t. sign_size t + 1 < i) whole far in
        behind_at l.sign l.prefix (rest_of l) i (omega (arith, size, far)) (subst (λ t. i < length t) whole below) (rest_known m l text reads)
        (subst (λ t. IsSpare m (get_or t i 0)) whole none)

-- A literal ends before a spare byte behind the place of the prefix.
near_spare : (m : Notation) (text : List ℕ) (n : ℕ) → n ≤ length text → IsFront m (take n text) → (i : ℕ) → sign_size text + 1 < i
    → IsSpare m (get_or text i 0) → n ≤ i
near_spare m text n within front i far none = elim (cases_lt i n) [
  | inl below ↦
      let whole = take n text ++ front.more in
      let more = longer m text n within front in
      let same = same_sign m text n within front (omega (arith, below)) in
      absurd (spare_excludes m whole i (omega (arith, same, far)) (omega (arith, below, more))
      (subst (IsSpare m) (sym (same_byte m text n within front i below)) none) front.literal front.reads)
  | inr near ↦ near
]

-- A text is not a literal if none begins with its first byte.
pub none_start : (m : Notation) (text : List ℕ) → IsWithin m text 0 → NoLiteral m text
none_start m [] none l reads = no_empty m l reads
none_start m (byte ∷ text) none l reads = none (length (byte ∷ text)) (omega arith) (omega arith)
    (begins_whole (Reads m) (take (length (byte ∷ text)) (byte ∷ text)) l
    (subst (Reads m l) (sym (take_all (length (byte ∷ text)) (byte ∷ text) (omega arith))) reads))

-- How far a syntax goes where `n` bytes are right.
module _ (m : Notation) (text : List ℕ) where
  pub reach_most : (n : ℕ) → reach m text n ≤ n + 1
  reach_most n = grind arith

  pub reach_least : (n : ℕ) → n ≤ reach m text n
  reach_least n = grind arith

  reach_far : (n : ℕ) → (n ≡ sign_size text + 1 → ⊥) → reach m text n ≤ n
  reach_far n other = grind (arith, nat_tests)

  reach_other : (n : ℕ) → is_in (is_other_prefix m) (slice_get text n) ≡ false → reach m text n ≤ n
  reach_other n none = grind arith

  -- It goes up to `size` at most.
  pub goes_no_further : (size : ℕ) → IsExcluded m text size → (n : ℕ) → IsValidUpTo m text n → reach m text n ≤ size
  goes_no_further size is n valid = elim (cases_lt size n) [
    | inl past ↦ absurd (is.within n past valid.within valid.front)
    | inr near ↦ (elim (cases_lt n size) [
      | inl below ↦ (let most = reach_most n in omega (arith, below, most))
      | inr all ↦ subst (λ k. reach m text k ≤ size) (le_antisymm all near) is.there
    ])
  ]

  no_other : (byte : ℕ) → m.prefix (other_case byte) ≡ false → is_other_prefix m byte ≡ false
  no_other byte none = ap (λ b. not (m.prefix byte) && b) none ∙ grind arith

  -- What excludes that the text is a literal: a zero that is not there,
  pub zero_out : LacksZero m text → IsExcluded m text (sign_size text)
  zero_out lacks = record {
    inside = sign_within text;
    none = λ l reads. lacks.other (zero_begins m l text reads lacks.required);
    within = λ more past inside front. let low = near_zero m text more inside front lacks in omega (arith, past, low);
    there = reach_far (sign_size text) (λ same. omega (arith, same));
  } where
    sign_within : (text : List ℕ) → sign_size text ≤ length text
    sign_within [] = omega arith
    sign_within (byte ∷ text) = grind arith

  -- a byte that plays no role, and its other case neither,
  pub silent_out : (i : ℕ) → i < length text → IsSilent m (get_or text i 0) → IsExcluded m text i
  silent_out i below (own, other) = record {
    inside = omega (arith, below);
    none = no_role_excludes m text i below own;
    within = λ more past inside front. let low = near_no_role m text more inside front i own in omega (arith, past, low);
    there = reach_other i
        (ap (is_in (is_other_prefix m)) (slice_get-get_or text i 0 below) ∙ no_other (get_or text i 0) (other.none roles.Prefix));
  }

  -- a letter that is not that of the prefix,
  pub letter_out : IsTrue (m.condition conditions.BasePrefix) → sign_size text + 1 < length text
      → AreFalse m.prefix (get_or text (sign_size text + 1) 0) → IsExcluded m text (sign_size text + 1)
  letter_out required below lacks = record {
    inside = omega (arith, below);
    none = λ l reads. false≢true (sym lacks.0 ∙ (prefix_begins m l text reads required).prefix);
    within = λ more past inside front. let low = near_letter m text more inside front required lacks.0 in omega (arith, past, low);
    there = reach_other (sign_size text + 1) (ap (is_in (is_other_prefix m)) (slice_get-get_or text (sign_size text + 1) 0 below)
        ∙ no_other (get_or text (sign_size text + 1) 0) lacks.1);
  }

  -- a stranger behind the place of the prefix,
  pub stranger_out : (i : ℕ) → sign_size text + 1 < i → (i < length text) × IsStranger m (get_or text i 0) → IsExcluded m text i
  stranger_out i far is = record {
    inside = let inside = is.0 in omega (arith, inside);
    none = spare_excludes m text i far is.0 is.1.0;
    within = λ more past inside front. let low = near_spare m text more inside front i far is.1.0 in omega (arith, past, low);
    there = reach_far i (λ same. omega (arith, far, same));
  }

  -- or that no literal begins with its first byte.
  pub start_out : IsWithin m text 0 → IsExcluded m text 0
  start_out none = record {
    inside = omega arith;
    none = none_start m text none;
    within = none;
    there = reach_far 0 (λ same. omega (arith, same));
  }

other_case-twice : (b : ℕ) → other_case (other_case b) ≡ b
other_case-twice b = grind (arith, nat_tests)

uppercase-other_case : (b : ℕ) → uppercase (other_case b) ≡ uppercase b
uppercase-other_case b = grind (arith, nat_tests)

byte_value-other_case : (b : ℕ) → byte_value (other_case b) ≡ byte_value b
unfolding byte_value
byte_value-other_case b = ap (λ k. unwrap_or (position (λ character. character == k) digit_characters) 255) (uppercase-other_case b)

not_cased : (counts : Bool) (own c : ℕ) → (c ≡ own → ⊥) → (c ≡ other_case own → ⊥) → cased counts own c ≡ false
unfolding cased
not_cased counts own c one other = grind (arith, nat_tests)

-- A byte that is not `own`, nor its other case, does not play the role of `own`, and its other case neither.
pub cased_apart : (counts : Bool) (own b : ℕ) → (own ≡ b → ⊥) → (own ≡ other_case b → ⊥) → AreFalse (cased counts own) b
cased_apart counts own b one other = (
  not_cased counts own b (λ is. one (sym is)) (λ is. other (sym (other_case-twice own) ∙ ap other_case (sym is))),
  not_cased counts own (other_case b) (λ is. other (sym is))
      (λ is. one (sym (sym (other_case-twice b) ∙ ap other_case is ∙ other_case-twice own))),
)

-- A byte that is not `own` in either case is not the decimal point `own`.
pub no_point : (own c : ℕ) → cased true own c ≡ false → ((c == own) && not (c == 0)) ≡ false
unfolding cased
no_point own c none = grind (arith, nat_tests)

-- If a test is false where another is, then it is false of a byte and its other case where the other is.
pub are_false : {own test other : ByteSet} (b : ℕ) → ((c : ℕ) → own c ≡ false → test c ≡ false) → ((c : ℕ) → test c ≡ other c)
    → AreFalse own b → AreFalse other b
are_false b from same none = (sym (same b) ∙ from b none.0, sym (same (other_case b)) ∙ from (other_case b) none.1)

-- A byte is spare if the tests of all roles but the prefix are false of it, and silent if that of the prefix is, too.
module _ (g : Grammar) (b : ℕ) where
  abbrev m : Notation
  m = notation_of g

  pub spare_of : (c : ℕ) → m.digit parts.Integer c ≡ false → m.digit parts.Exponent c ≡ false → signs c ≡ false
      → cased true ((raw g.word).byte layout.digit_separator) c ≡ false → m.suffix c ≡ false → m.point c ≡ false → m.exponent_character c ≡ false
      → IsSpare m c
  spare_of c integer exponent sign separator suffix point character roles.Digit other = grind arith
  spare_of c integer exponent sign separator suffix point character roles.Separator other = grind arith
  spare_of c integer exponent sign separator suffix point character roles.Point other = point
  spare_of c integer exponent sign separator suffix point character roles.Exponent other = character
  spare_of c integer exponent sign separator suffix point character roles.Suffix other = suffix
  spare_of c integer exponent sign separator suffix point character roles.Sign other = sign
  spare_of c integer exponent sign separator suffix point character roles.Prefix other = absurd (other refl)

  pub stranger_of : m.digit parts.Integer b ≡ false → m.digit parts.Exponent b ≡ false → (b ≡ 43 → ⊥) → (b ≡ 45 → ⊥)
      → AreFalse (cased true ((raw g.word).byte layout.digit_separator)) b → AreFalse m.suffix b → AreFalse m.point b → AreFalse m.exponent_character b
      → IsStranger m b
  stranger_of integer exponent plus minus separator suffix point character = (
    spare_of b integer exponent (grind (arith, nat_tests)) separator.0 suffix.0 point.0 character.0,
    spare_of (other_case b) (ap (λ v. nat_lt v (radix_of (raw g.word) parts.Integer)) (byte_value-other_case b) ∙ integer)
        (ap (λ v. nat_lt v (radix_of (raw g.word) parts.Exponent)) (byte_value-other_case b) ∙ exponent) (grind (arith, nat_tests))
        separator.1 suffix.1 point.1 character.1,
  )

  pub silent_of : (c : ℕ) → (c ≡ 48 → ⊥) → IsSpare m c → m.prefix c ≡ false → PlaysNoRole m c
  silent_of c zero spare prefix = record { not_zero = zero; none = of } where
    of : (r : Role) → set_of_role m r c ≡ false
    of roles.Prefix = prefix
    of r = spare r (λ same. cc)

  pub not_zero : 57 < b → other_case b ≡ 48 → ⊥
  not_zero above is = absurd (grind (arith, nat_tests))
