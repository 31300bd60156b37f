-- The conditions in their order, and those that are kept of others.
use Rattle.lexical_literal.proofs.Common.{Bool, Condition, Conditions, all_conditions, arith, common_steps, ext_get_or, false, has, if◌then◌else◌, is_same}
use Rattle.lexical_literal.proofs.Common.{kept, length, list_any, nat_tests, number_of, true, ℕ, ◌&&◌, ◌≡◌}

-- What is true of no condition of the list is true of none.
pub none_of_all : (P : Condition → Bool) → list_any P all_conditions ≡ false → (d : Condition) → P d ≡ false
none_of_all P none d = grind arith

-- Those of some conditions that are kept.
pub has_kept : (c : Conditions) (x : Condition → Bool) (d : Condition) → has (kept (λ d. has c d && x d) (number_of c)) d ≡ (has c d && x d)
has_kept c x d = grind (arith, nat_tests)

-- One of them is kept.
pub has_only : (c : Conditions) (d e : Condition) → has c d ≡ true → has (kept (is_same d) (number_of c)) e ≡ is_same d e
has_only c d e set = grind (arith, nat_tests)

module _ (C : Condition → Bool) (N : Condition → ℕ) where
  -- Conditions with the numbers of those that are kept are these.
  pub is_kept : (c : Conditions) → length c.numbers ≡ length all_conditions → ((d : Condition) → number_of c d ≡ (if C d then N d else 0)) → c ≡ kept C N
  is_kept c all each = grind (arith, common_steps, ext_get_or)
