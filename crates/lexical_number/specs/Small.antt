-- Whether a number has so few digits that it has 64 bits, however great they are.
use Rattle.std.specs.Prelude.{ℕ, zero, suc, ◌≡◌, ◌<◌, ◌≤◌, ◌^◌, IfSome, IsSome, List, [], ◌∷◌, Option}

-- `IsShort radix n` holds if `n` has at most `k` digits in `radix`, and if each number of `k` digits is below `2 ^ 64`, for some `k`.
abbrev pub IsShort : ℕ → ℕ → Type 0
IsShort radix n = (k : ℕ) × (n < radix ^ k) × (radix ^ k ≤ 2 ^ 64)

-- `IsSmall radix n small` holds if `small` is `Some` if `n` is short in `radix`, and if it is `n` wherever it is `Some`.
pub record IsSmall (radix n : ℕ) (small : Option ℕ) : Type 0 where
  pub some : IsShort radix n → IsSome small
  pub value : IfSome small (λ m. m ≡ n)

-- `leading_zeros digits` is the number of zeros that `digits` begin with.
abbrev pub leading_zeros : List ℕ → ℕ
leading_zeros [] = 0
leading_zeros (zero ∷ digits) = suc (leading_zeros digits)
leading_zeros (suc digit ∷ digits) = 0
