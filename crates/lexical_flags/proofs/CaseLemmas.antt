-- Lemmas on the two cases of a letter, and on the roles that they play.
use Rattle.std.proofs.Common.{rules, bit_xor, position, unwrap_or}
use Rattle.lexical_flags.proofs.Common.{ℕ, [], ◌∷◌, ◌≡◌, ◌≢◌, ◌<◌, ◌⊎◌, ◌∙◌, ◌↔◌, ◌==◌, ◌||◌, ◌&&◌, Bool, true, false, not, IsTrue, bit_or, eqb-true, refl, ap}
use Rattle.lexical_flags.proofs.Common.{sym, subst, arith, nat_lt, false≢true, agree_below_at, nat_tests, Record, effective_exponent_radix, AreDisjoint}
use Rattle.lexical_flags.proofs.Common.{other_case, digits, signs, format_roles}
use Rattle.std.proofs.lemmas.Bool.{or_parts}
use Rattle.lexical_base.specs.Ascii.{letters}
use Rattle.lexical_base.specs.Digits.{byte_value, digit_characters, uppercase}
use Rattle.lexical_flags.specs.Roles.{Disjoint, cased}
use Rattle.lexical_flags.specs.Layout as layout
use Rattle.lexical_flags.proofs.DisjointLemmas.{Disjoint-at, Disjoint-from}

-- The other case of a letter is the letter with the bit 0x20 flipped.
pub flipped : (byte : ℕ) → byte < 256 → IsTrue (letters byte) → bit_xor byte 32 ≡ other_case byte
flipped byte below is_letter =
    eqb-true _ _ (subst (λ t. (not t || (bit_xor byte 32 == other_case byte)) ≡ true) is_letter
    (agree_below_at (λ b. not (letters b) || (bit_xor b 32 == other_case b)) (λ _. true) 256 byte refl below))

-- A byte that plays the role of `own` is `own` or its other case, and `own` is not absent.
pub cased-cases : (counts : Bool) (own byte : ℕ) → IsTrue (cased counts own byte) → (own ≢ 0) × ((byte ≡ own) ⊎ (byte ≡ other_case own))
unfolding cased
cased-cases counts own byte inside = grind (arith, nat_tests)

other_case-twice : (byte : ℕ) → other_case (other_case byte) ≡ byte
other_case-twice byte = grind (arith, nat_tests)

-- A number that is one of two, or `f` of it, for an `f` that is its own inverse, shows that they are equal or `f` of one another.
cases_met : (f : ℕ → ℕ) → ((n : ℕ) → f (f n) ≡ n) → (a b n : ℕ) → a ≢ b → b ≢ f a → (n ≡ a) ⊎ (n ≡ f a) → (n ≡ b) ⊎ (n ≡ f b) → ⊥
cases_met f twice a b n differ other of_a of_b = let one = twice a in let two = twice b in grind arith

-- If two bytes differ and are not the two cases of a letter, or if one is absent, then their roles are disjoint.
present_apart : (a_counts : Bool) (a : ℕ) (b_counts : Bool) (b : ℕ) → (a ≢ 0 → b ≢ 0 → (a ≢ b) × (b ≢ other_case a))
    → Disjoint (cased a_counts a) (cased b_counts b)
present_apart a_counts a b_counts b differ = search (rules, Disjoint-from, cased-cases, cases_met, other_case, other_case-twice)

pub differ_apart : (a_counts : Bool) (a : ℕ) (b_counts : Bool) (b : ℕ) → (a ≢ 0 → (a ≢ b) × (b ≢ other_case a)) → Disjoint (cased a_counts a) (cased b_counts b)
differ_apart a_counts a b_counts b differ = present_apart a_counts a b_counts b (λ some _. differ some)

-- The two cases of a letter agree in all bits except 0x20.
other_case-bits : (byte : ℕ) → byte < 256 → bit_or (other_case byte) 32 ≡ bit_or byte 32
other_case-bits byte below = eqb-true _ _ (agree_below_at (λ b. bit_or (other_case b) 32 == bit_or b 32) (λ _. true) 256 byte refl below)

-- If two bytes differ in a bit other than 0x20, then their roles are disjoint.
pub other_bits_apart : (a_counts : Bool) (a : ℕ) (b_counts : Bool) (b : ℕ) → a < 256
    → (b ≢ 0 → bit_or a 32 ≢ bit_or b 32) → Disjoint (cased a_counts a) (cased b_counts b)
other_bits_apart a_counts a b_counts b below differ = present_apart a_counts a b_counts b (λ _ some. (
  λ same. differ some (ap (λ n. bit_or n 32) same),
  λ other. differ some (sym (ap (λ n. bit_or n 32) other ∙ other_case-bits a below)),
))

-- Two roles of the same byte are not disjoint, unless the byte is absent.
pub same_clash : (a_counts : Bool) (a : ℕ) (b_counts : Bool) → a < 256 → a ≢ 0 → Disjoint (cased a_counts a) (cased b_counts a) → ⊥
unfolding cased
same_clash a_counts a b_counts below some apart = Disjoint-at _ _ apart a below (grind (arith, nat_tests)) (grind (arith, nat_tests))

-- If two bytes cannot clash, then their roles are disjoint, whether they are case-sensitive or not.
far_apart : (a_counts : Bool) (a : ℕ) (b_counts : Bool) (b : ℕ) {near : Bool} → a < 256 → (IsTrue near ↔ ((b ≢ 0) × (bit_or a 32 ≡ bit_or b 32))) → near ≡ false
    → Disjoint (cased a_counts a) (cased b_counts b)
far_apart a_counts a b_counts b below told far = other_bits_apart a_counts a b_counts b below (λ some same. false≢true (sym far ∙ told.1 (some, same)))

-- If no two of separator, prefix and suffix can clash, then their roles are disjoint.
pub own_roles_apart : (r : Record) {a b c : ℕ} {ab ac bc : Bool}
    → a ≡ r.byte layout.digit_separator → b ≡ r.byte layout.base_prefix → c ≡ r.byte layout.base_suffix
    → r.byte layout.digit_separator < 256 → r.byte layout.base_prefix < 256 → (IsTrue ab ↔ ((b ≢ 0) × (bit_or a 32 ≡ bit_or b 32)))
    → (IsTrue ac ↔ ((c ≢ 0) × (bit_or a 32 ≡ bit_or c 32))) → (IsTrue bc ↔ ((c ≢ 0) × (bit_or b 32 ≡ bit_or c 32)))
    → ((ab || ac) || bc) ≡ false → AreDisjoint (format_roles r)
own_roles_apart r {a} {b} {c} {ab} {ac} {bc} a_is b_is c_is a_fits b_fits ab_told ac_told bc_told none =
    let prefix = r.flag layout.case_sensitive_base_prefix in
    let suffix = r.flag layout.case_sensitive_base_suffix in
    let front = or_parts (ab || ac) bc none in
    let first = or_parts ab ac front.0 in
    let a_c = far_apart true a suffix c (omega arith) ac_told first.1 in
    let b_c = far_apart prefix b suffix c (omega arith) bc_told front.1 in
    subst (λ X. X) (λ i. AreDisjoint (cased true (a_is i) ∷ cased prefix (b_is i) ∷ cased suffix (c_is i) ∷ []))
    (((far_apart true a prefix b (omega arith) ab_told first.0), (a_c, tt)), ((b_c, tt), (tt, tt)))

-- Two different bytes have disjoint roles if both roles are case-sensitive.
both_count : (a b : ℕ) → a ≢ b → Disjoint (cased true a) (cased true b)
unfolding cased
both_count a b differ = Disjoint-from _ _ (λ byte below is_a is_b. grind (arith, nat_tests))

-- The roles of the two cases of a letter are not disjoint if the first role is not case-sensitive.
first_counts_not : (a : ℕ) (b_counts : Bool) (b : ℕ) → IsTrue (letters a) → b ≡ other_case a → Disjoint (cased false a) (cased b_counts b) → ⊥
unfolding cased
first_counts_not a b_counts b letter other apart = Disjoint-at _ _ apart b (grind (arith, nat_tests)) (grind (arith, nat_tests)) (grind (arith, nat_tests))

second_counts_not : (a b : ℕ) → IsTrue (letters a) → b ≡ other_case a → Disjoint (cased true a) (cased false b) → ⊥
unfolding cased
second_counts_not a b letter other apart = Disjoint-at _ _ apart a (grind (arith, nat_tests)) (grind (arith, nat_tests)) (grind (arith, nat_tests))

pub cases_apart : (a : ℕ) (a_counts : Bool) (b : ℕ) (b_counts : Bool) → a ≢ b → IsTrue (letters a) → b ≡ other_case a →
    IsTrue (a_counts && b_counts) ↔ Disjoint (cased a_counts a) (cased b_counts b)
cases_apart a true b true differ letter other = (λ _. both_count a b differ, λ _. refl)
cases_apart a true b false differ letter other = (λ both. cc, λ apart. absurd (second_counts_not a b letter other apart))
cases_apart a false b b_counts differ letter other = (λ both. cc, λ apart. absurd (first_counts_not a b_counts b letter other apart))

uppercase-other_case : (byte : ℕ) → uppercase (other_case byte) ≡ uppercase byte
uppercase-other_case byte = grind (arith, nat_tests)

byte_value-other_case : (byte : ℕ) → byte_value (other_case byte) ≡ byte_value byte
unfolding byte_value
byte_value-other_case byte = ap (λ k. unwrap_or (position (λ character. character == k) digit_characters) 255) (uppercase-other_case byte)

-- If the other case of a byte is a digit, then so is the byte.
pub digits-other_case : (r : Record) (byte : ℕ) → IsTrue (digits r (other_case byte)) → IsTrue (digits r byte)
digits-other_case r byte inside = search (rules, nat_lt, effective_exponent_radix, byte_value-other_case)

-- If the other case of a byte is a sign, then so is the byte.
pub signs-other_case : (byte : ℕ) → IsTrue (signs (other_case byte)) → IsTrue (signs byte)
signs-other_case byte inside = grind (arith, nat_tests)
