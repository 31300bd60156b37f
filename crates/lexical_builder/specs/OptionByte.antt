-- A byte that may be absent, as an option and as a number.
use Rattle.std.specs.Prelude.{ℕ, ◌==◌, if◌then◌else◌, Option, Some, None}

-- `byte_of_option byte` is the byte in the option `byte`, or 0 if `byte` is `None`.
abbrev pub byte_of_option : Option ℕ → ℕ
byte_of_option None = 0
byte_of_option (Some byte) = byte

-- `option_of_byte byte` is `byte` as an option, which is `None` if `byte` is 0.
abbrev pub option_of_byte : ℕ → Option ℕ
option_of_byte byte = if byte == 0 then None else Some byte
