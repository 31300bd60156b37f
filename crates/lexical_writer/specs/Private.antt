-- What has been put into a buffer.
use Rattle.std.specs.Prelude.{ℕ, ◌≡◌, ◌-◌, ◌^◌, ◌≤◌, List, length, min, take}

-- `IsPut text bytes size` holds if `size` is the length of `text`, or the largest `usize` if that is less, and if `bytes` begin with `text`, where they
-- are enough.
pub record IsPut (text bytes : List ℕ) (size : ℕ) : Type 0 where
  pub counted : size ≡ min (length text) (2 ^ 64 - 1)
  pub begins : length text ≤ length bytes → take (length text) bytes ≡ text
