-- Lemmas on disjoint sets of bytes.
use Rattle.lexical_flags.proofs.Common.{ℕ, ◌≡◌, ◌<◌, ◌↔◌, ◌&&◌, Bool, true, IsTrue, not, sym, subst, ◌∙◌, arith, list_all, range_with_len, ByteSet}
use Rattle.std.proofs.lemmas.List.Sums.{AllPass-from_list_all, list_all-from_AllPass}
use Rattle.std.proofs.lemmas.List.FromFn.{length-range_with_len, get_or-range_with_len}
use Rattle.lexical_flags.specs.Roles.{Disjoint, are_disjoint}

-- A test of all numbers below n passes if and only if each of these numbers passes.
each_below : (p : ℕ → Bool) (n : ℕ) → (list_all p (range_with_len 0 n) ≡ true) ↔ ((i : ℕ) → i < n → p i ≡ true)
each_below p n = (
  λ test i below. subst (λ k. p k ≡ true) (get_or-range_with_len 0 n i 0 below ∙ omega arith)
      (AllPass-from_list_all p (range_with_len 0 n) test i 0 (subst (λ k. i < k) (sym (length-range_with_len 0 n)) below)),
  λ all. list_all-from_AllPass p (range_with_len 0 n) (λ i d inside.
      let below : i < n = subst (λ k. i < k) (length-range_with_len 0 n) inside in
      subst (λ k. p k ≡ true) (sym (get_or-range_with_len 0 n i d below ∙ omega arith)) (all i below)),
)

not_both : (a b : Bool) → (not (a && b) ≡ true) ↔ (IsTrue a → IsTrue b → ⊥)
not_both a b = grind arith

-- Two sets are disjoint if and only if no byte is in both.
pub disjoint_bytes : (A B : ByteSet) → Disjoint A B ↔ ((byte : ℕ) → byte < 256 → IsTrue (A byte) → IsTrue (B byte) → ⊥)
unfolding Disjoint are_disjoint
disjoint_bytes A B =
    let each = each_below (λ byte. not (A byte && B byte)) 256 in (
      λ test byte below. (not_both (A byte) (B byte)).0 (each.0 test byte below),
      λ apart. each.1 (λ byte below. (not_both (A byte) (B byte)).1 (apart byte below)),
    )

pub Disjoint-at : (A B : ByteSet) → Disjoint A B → (byte : ℕ) → byte < 256 → IsTrue (A byte) → IsTrue (B byte) → ⊥
Disjoint-at A B = (disjoint_bytes A B).0

pub Disjoint-from : (A B : ByteSet) → ((byte : ℕ) → byte < 256 → IsTrue (A byte) → IsTrue (B byte) → ⊥) → Disjoint A B
Disjoint-from A B = (disjoint_bytes A B).1

pub Disjoint-sym : (A B : ByteSet) → Disjoint A B → Disjoint B A
Disjoint-sym A B apart = Disjoint-from B A (λ byte below in_b in_a. Disjoint-at A B apart byte below in_a in_b)
