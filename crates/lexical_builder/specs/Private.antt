-- Definitions for private functions and for the proofs of this crate. No public contract cites them.
use Rattle.std.specs.Prelude.{ℕ, ◌+◌, ◌*◌, ◌^◌, ◌<◌, ◌==◌, find, unwrap_or, length}
use Rattle.lexical_flags.specs.Layout.{part, Byte, flags, bytes, base_flags, digit_separator_flags}
use Rattle.lexical_flags.specs.Layout as layout
use Rattle.lexical_builder.specs.BuilderBits.{byte_index}
use Rattle.lexical_builder.specs.declared.format_builder.NumberFormatBuilder.TheInside.{Inside}

-- `flags_in word` is the number with the flags of `word` at the bits where a builder keeps them.
abbrev pub flags_in : ℕ → ℕ
flags_in word = part word 0 (length base_flags) + part word 32 (length digit_separator_flags) * 2 ^ length base_flags

-- `byte_at index` is the byte that a builder keeps at `index`.
abbrev pub byte_at : ℕ → Byte
byte_at index = unwrap_or (find (λ b. byte_index b == index) bytes) layout.digit_separator

-- `HasClearTop inside` holds if the bits of the builder `inside` above its flags are 0.
abbrev pub HasClearTop : Inside → Type 0
HasClearTop inside = inside.flags < 2 ^ length flags
