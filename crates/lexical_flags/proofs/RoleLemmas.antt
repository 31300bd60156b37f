-- Lemmas on disjoint roles: digits, signs, and the roles of single bytes.
use Rattle.std.proofs.Common.{rules}
use Rattle.lexical_flags.proofs.Common.{ℕ, ◌≡◌, ◌≢◌, ◌<◌, min, nat_lt, ◌||◌, Bool, IsTrue, ◌∙◌, arith, nat_tests, ByteSet, Record, effective_exponent_radix}
use Rattle.lexical_flags.proofs.Common.{other_case, digits, signs}
use Rattle.lexical_base.specs.Digits.{byte_value}
use Rattle.lexical_base.proofs.ValueLemmas.{value_is}
use Rattle.lexical_flags.specs.Roles.{Disjoint, cased}
use Rattle.lexical_flags.specs.Layout as layout
use Rattle.lexical_flags.proofs.DisjointLemmas.{Disjoint-at, Disjoint-from}
use Rattle.lexical_flags.proofs.CaseLemmas.{cased-cases, digits-other_case, signs-other_case}

-- If a set contains a byte whenever it contains the other case of that byte, and does not contain `own`, then the role
-- of `own` is disjoint from the set.
Disjoint-cased : (A : ByteSet) → ((b : ℕ) → IsTrue (A (other_case b)) → IsTrue (A b)) →
    (counts : Bool) (own : ℕ) → (own ≢ 0 → IsTrue (A own) → ⊥) → Disjoint A (cased counts own)
Disjoint-cased A both_cases counts own out = search (rules, Disjoint-from, cased-cases)

-- If the set `A` and the role of `own` are disjoint, then `A` does not contain `own`, provided that `own` is not 0 and
-- below 256.
pub not_in : (A : ByteSet) (counts : Bool) (own : ℕ) → Disjoint A (cased counts own) → own < 256 → own ≢ 0 → IsTrue (A own) → ⊥
unfolding cased
not_in A counts own apart below positive inside = Disjoint-at _ _ apart own below inside (grind (arith, nat_tests))

-- If a byte is absent or not a digit, then the digits and its role are disjoint.
pub Disjoint-digits-cased : (r : Record) (counts : Bool) (own : ℕ) → (own ≢ 0 → IsTrue (digits r own) → ⊥) → Disjoint (digits r) (cased counts own)
Disjoint-digits-cased r = Disjoint-cased (digits r) (digits-other_case r)

-- If a byte is absent or not a sign, then the signs and its role are disjoint.
pub Disjoint-signs-cased : (counts : Bool) (own : ℕ) → (own ≢ 0 → IsTrue (signs own) → ⊥) → Disjoint signs (cased counts own)
Disjoint-signs-cased = Disjoint-cased signs signs-other_case

-- A byte below the character 0 has the value 255.
no_value : (byte : ℕ) → byte < 48 → byte_value byte ≡ 255
no_value byte before = value_is byte (omega arith) ∙ grind (arith, nat_tests)

below_neither : (v m e : ℕ) → v ≡ 255 → IsTrue (nat_lt v (min m 36) || nat_lt v (min e 36)) → ⊥
below_neither v m e none inside = grind (arith, nat_tests)

-- A byte below the character 0 is not a digit.
pub no_digit : (r : Record) (byte : ℕ) → byte < 48 → IsTrue (digits r byte) → ⊥
no_digit r byte before = below_neither (byte_value byte) (r.byte layout.mantissa_radix) (effective_exponent_radix r) (no_value byte before)

-- The digits and the signs are disjoint.
pub Disjoint-digits-signs : (r : Record) → Disjoint (digits r) signs
Disjoint-digits-signs r = search (rules, Disjoint-from, no_digit)
