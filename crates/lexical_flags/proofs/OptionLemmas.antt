-- Lemmas on an exponent character and a decimal point, in addition to the five roles of a word.
use Rattle.std.proofs.Common.{rules}
use Rattle.lexical_flags.proofs.Common.{ℕ, ◌≡◌, ◌+◌, ◌≤◌, ◌≢◌, ◌⊎◌, ◌==◌, ◌||◌, not, if◌then◌else◌, Bool, true, false, IsTrue, ◌↔◌, arith, AllByRecursion}
use Rattle.lexical_flags.proofs.Common.{nat_tests, allowed_ascii, Record, raw, digits, signs, format_roles, five_roles, Error, Success}
use Rattle.lexical_flags.specs.Roles.{Disjoint, cased}
use Rattle.lexical_flags.specs.Rules.{IsPunctuation, Lawful}
use Rattle.lexical_flags.specs.Options.{OptionsFit, OptionsHaveOneRole, SomeOptionsHaveOneRole, IsOptionsError}
use Rattle.lexical_flags.specs.Layout as layout
use Rattle.lexical_flags.proofs.DisjointLemmas.{Disjoint-from, Disjoint-sym}
use Rattle.lexical_flags.proofs.RoleLemmas.{Disjoint-digits-cased, Disjoint-signs-cased, not_in, no_digit}

-- The byte 0 is not allowed ASCII.
text-positive : (byte : ℕ) → IsTrue (allowed_ascii byte) → byte ≢ 0
text-positive byte text = grind (arith, nat_tests)

-- If the role of a byte of allowed ASCII is disjoint from the five roles of a format, then the byte is punctuation.
IsPunctuation-from_apart : (r : Record) (counts : Bool) (b : ℕ) → IsTrue (allowed_ascii b)
    → AllByRecursion (Disjoint (cased counts b)) (five_roles r) → IsPunctuation r b
unfolding IsPunctuation
IsPunctuation-from_apart r counts b text (digits_apart, (signs_apart, own)) = search (rules, not_in, Disjoint-sym, text-positive, digits, signs)

-- If a byte is punctuation and its role is disjoint from separator, prefix and suffix, then its role is disjoint from
-- the five roles.
five_from_own : (r : Record) (counts : Bool) (b : ℕ) → IsPunctuation r b
    → AllByRecursion (Disjoint (cased counts b)) (format_roles r) → AllByRecursion (Disjoint (cased counts b)) (five_roles r)
unfolding IsPunctuation
five_from_own r counts b free own = search (rules, Disjoint-sym, Disjoint-digits-cased, Disjoint-signs-cased)

-- If no byte plays two of the seven roles, then the options are accepted.
accepted_from_roles : (word e p : ℕ) → OptionsHaveOneRole word e p → OptionsFit word e p
accepted_from_roles word e p h = search (rules, IsPunctuation-from_apart)

-- If options are accepted in a lawful word, then no byte plays two of the seven roles.
roles_from_accepted : (word e p : ℕ) → Lawful word → OptionsFit word e p → OptionsHaveOneRole word e p
unfolding IsPunctuation Lawful
roles_from_accepted word e p lawful h =
    let r : Record = raw word in
    record {
      exponent_is_text = h.exponent_is_punctuation.0;
      point_is_text = h.point_is_punctuation.0;
      roles = (
        (h.apart, five_from_own r (r.flag layout.case_sensitive_exponent) e h.exponent_is_punctuation h.exponent_is_new),
        (five_from_own r true p h.point_is_punctuation h.point_is_new, lawful.roles),
      );
    }

pub accepted_roles : (word e p : ℕ) → Lawful word → OptionsFit word e p ↔ OptionsHaveOneRole word e p
accepted_roles word e p lawful = (roles_from_accepted word e p lawful, accepted_from_roles word e p)

-- `is_other n a b c` is true if `n` differs from `a`, `b` and `c`.
is_other : ℕ → ℕ → ℕ → ℕ → Bool
is_other n a b c = not ((n == a) || (n == b) || (n == c))

is_other-told : (n a b c : ℕ) → ((is_other n a b c ≡ true) × (n ≢ a) × (n ≢ b) × (n ≢ c)) ⊎ ((is_other n a b c ≡ false) × ((n ≡ a) ⊎ ((n ≡ b) ⊎ (n ≡ c))))
unfolding is_other
is_other-told n a b c = grind (arith, nat_tests)

-- `free_from low a b c` is the first of the four numbers from `low` up that differs from `a`, `b` and `c`.
free_from : ℕ → ℕ → ℕ → ℕ → ℕ
free_from low a b c = if is_other low a b c then low
    else if is_other (low + 1) a b c then low + 1
    else if is_other (low + 2) a b c then low + 2 else low + 3

free_from-is : (low a b c : ℕ) → (low ≤ free_from low a b c) × (free_from low a b c ≤ low + 3)
    × (free_from low a b c ≢ a) × (free_from low a b c ≢ b) × (free_from low a b c ≢ c)
unfolding free_from
free_from-is low a b c = grind (arith, is_other-told)

-- The bytes from ! to ( are punctuation in every format.
IsPunctuation-mark : (r : Record) (byte : ℕ) → 33 ≤ byte → byte ≤ 40 → IsPunctuation r byte
unfolding IsPunctuation
IsPunctuation-mark r byte low high = (grind (arith, nat_tests), no_digit r byte (omega arith), (λ is_sign. grind (arith, nat_tests)))

-- If a byte is from ! to (, then its role is disjoint from the role of any other byte.
Disjoint-mark : (a : ℕ) (a_counts : Bool) (b : ℕ) (b_counts : Bool) → 33 ≤ a → a ≤ 40 → a ≢ b → Disjoint (cased a_counts a) (cased b_counts b)
unfolding cased
Disjoint-mark a a_counts b b_counts low high differ = Disjoint-from _ _ (λ byte below is_a is_b. grind (arith, nat_tests))

-- If a byte from ! to ( differs from separator, prefix and suffix, then its role is disjoint from their roles.
is_new : (r : Record) (byte : ℕ) (counts : Bool) → 33 ≤ byte → byte ≤ 40
    → byte ≢ r.byte layout.digit_separator → byte ≢ r.byte layout.base_prefix → byte ≢ r.byte layout.base_suffix
    → AllByRecursion (Disjoint (cased counts byte)) (format_roles r)
is_new r byte counts low high separator prefix suffix = (
  Disjoint-mark byte counts _ true low high separator,
  (
    Disjoint-mark byte counts _ (r.flag layout.case_sensitive_base_prefix) low high prefix,
    (Disjoint-mark byte counts _ (r.flag layout.case_sensitive_base_suffix) low high suffix, tt),
  ),
)

-- A lawful word has options with which no byte plays two roles, since at least one of any four bytes from ! to (
-- differs from separator, prefix and suffix.
pub some_from_lawful : (word : ℕ) → Lawful word → SomeOptionsHaveOneRole word
some_from_lawful word lawful =
    let r : Record = raw word in
    let e : ℕ = free_from 33 (r.byte layout.digit_separator) (r.byte layout.base_prefix) (r.byte layout.base_suffix) in
    let p : ℕ = free_from 37 (r.byte layout.digit_separator) (r.byte layout.base_prefix) (r.byte layout.base_suffix) in
    let e_free = free_from-is 33 (r.byte layout.digit_separator) (r.byte layout.base_prefix) (r.byte layout.base_suffix) in
    let p_free = free_from-is 37 (r.byte layout.digit_separator) (r.byte layout.base_prefix) (r.byte layout.base_suffix) in
    let accepted : OptionsFit word e p = record {
      exponent_is_punctuation = IsPunctuation-mark r e e_free.0 (omega arith);
      point_is_punctuation = IsPunctuation-mark r p (omega arith) p_free.1;
      apart = Disjoint-mark e (r.flag layout.case_sensitive_exponent) p true e_free.0 (omega arith) (omega arith);
      exponent_is_new = is_new r e (r.flag layout.case_sensitive_exponent) e_free.0 (omega arith) e_free.2 e_free.3 e_free.4;
      point_is_new = is_new r p true (omega arith) p_free.1 p_free.2 p_free.3 p_free.4;
    } in
    record { exponent_byte = e; point_byte = p; one_role = roles_from_accepted word e p lawful accepted }

-- An exponent character and a decimal point have at most one error.
pub one_options_error : (word e p : ℕ) (a b : Error) → IsOptionsError word e p a → IsOptionsError word e p b → a ≡ b
one_options_error word e p a b h k = grind arith

-- The error of an exponent character and a decimal point is Success if and only if they are accepted.
pub options_success : (word e p : ℕ) (error : Error) → IsOptionsError word e p error → (error ≡ Success) ↔ OptionsFit word e p
options_success word e p error h = grind arith
