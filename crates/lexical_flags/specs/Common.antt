-- The bitwise AND of two words, for `radix_from_flags` and the flag groups of a word.
use Rattle.std.specs.Prelude.{ℕ, ◌^◌, ◌==◌, ◌&&◌, Bool, if◌then◌else◌, sum_by}
use Rattle.std.specs.List.{range_with_len}
use Rattle.lexical_flags.specs.Layout.{part}

-- `has_one word bit` is true if the bit `bit` of `word` is 1.
abbrev pub has_one : ℕ → ℕ → Bool
has_one word bit = part word bit 1 == 1

-- `common_at v w bit` is the value of the bit `bit` if it is 1 in both `v` and `w`, and 0 otherwise.
abbrev pub common_at : ℕ → ℕ → ℕ → ℕ
common_at v w bit = if has_one v bit && has_one w bit then 2 ^ bit else 0

-- `common v w` is the number whose bits are 1 in both `v` and `w`: the sum over the 128 bits.
unfoldable pub common : ℕ → ℕ → ℕ
common v w = sum_by (common_at v w) (range_with_len 0 128)
