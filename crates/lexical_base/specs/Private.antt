-- Definitions for private functions and for the proofs of this crate. No public contract cites them.
use Rattle.std.specs.Prelude.{ℕ, ◌||◌}
use Rattle.lexical_base.specs.Ascii.{ByteSet, between}

-- `in_two_ranges first second` is the set of the bytes that are in the range `first` or in the range `second`. Each
-- range is given by its lowest and its highest byte.
abbrev pub in_two_ranges : ℕ × ℕ → ℕ × ℕ → ByteSet
in_two_ranges first second byte = between first.0 first.1 byte || between second.0 second.1 byte
