-- Sets of bytes.
use Rattle.std.specs.Prelude.{ℕ, Bool, nat_le, ◌&&◌, ◌||◌}

-- `ByteSet` is the type of sets of bytes. A set is the function that is true for its members.
abbrev pub ByteSet : Type 0
ByteSet = ℕ → Bool

-- `between low high` is the set of the bytes from `low` to `high`, including both.
abbrev pub between : ℕ → ℕ → ByteSet
between low high byte = nat_le low byte && nat_le byte high

-- `allowed_ascii` is the set of the bytes that a format may use: tab to carriage return, and space to tilde.
abbrev pub allowed_ascii : ByteSet
allowed_ascii byte = between 9 13 byte || between 32 126 byte

-- `letters` is the set of the uppercase letters A to Z and the lowercase letters a to z.
abbrev pub letters : ByteSet
letters byte = between 65 90 byte || between 97 122 byte
