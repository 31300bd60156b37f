-- The place of each field in a builder, and the record that a builder represents.
use Rattle.std.specs.Prelude.{ℕ, ◌+◌, ◌-◌, ◌==◌, nat_lt, if◌then◌else◌, List}
use Rattle.std.specs.Prelude.{length, slice_index}
use Rattle.lexical_flags.specs.Layout.{part, Flag, Byte, bit, base_flags}
use Rattle.lexical_flags.specs.Layout as layout
use Rattle.lexical_flags.specs.Record.{Record}
use Rattle.lexical_builder.specs.declared.format_builder.NumberFormatBuilder.TheInside.{Inside}

-- `builder_bit f` is the bit of the flag `f` in a builder. The digit separator flags directly follow the other flags.
abbrev pub builder_bit : Flag → ℕ
builder_bit f = if nat_lt (bit f) 32 then bit f else bit f - 32 + length base_flags

-- `byte_index b` is the index of the byte `b` in a builder.
abbrev pub byte_index : Byte → ℕ
byte_index layout.digit_separator = 0
byte_index layout.base_prefix = 1
byte_index layout.base_suffix = 2
byte_index layout.mantissa_radix = 3
byte_index layout.exponent_base = 4
byte_index layout.exponent_radix = 5

-- `builder_record_of_parts flags bytes` is the record with the flags at the bits of `flags`, and the six bytes `bytes`.
abbrev pub builder_record_of_parts : ℕ → List ℕ → Record
builder_record_of_parts flags bytes =
    record { flag = λ f. part flags (builder_bit f) 1 == 1; byte = λ b. slice_index bytes (byte_index b) }

-- `builder_record inside` is the record that the builder `inside` represents.
abbrev pub builder_record : Inside → Record
builder_record inside = builder_record_of_parts inside.flags inside.bytes
