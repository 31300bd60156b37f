-- Writes of fields, and the record after them.
use Rattle.std.specs.Prelude.{◌≡◌, ℕ, ◌<◌, ◌==◌, Bool, not, if◌then◌else◌, List, Option, Some, None, map, unwrap_or}
use Rattle.std.specs.Prelude.{filter, filter_map, ⊤}
use Rattle.std.specs.List.{last_or}
use Rattle.std.specs.Bool.{beq}
use Rattle.lexical_flags.specs.Layout.{part, Flag, Byte, bit, shift, flags}
use Rattle.lexical_flags.specs.Record.{Record}
pub use Rattle.lexical_builder.specs.NewRecord.{new_record, radix_record}

-- `Write` is the type of writes. A write has a field and the new value of the field.
pub data Write : Type 0 where
  write_flag : Flag → Bool → Write
  write_byte : Byte → ℕ → Write

-- `IsLegal write` holds if the value of `write` fits its field: the value of a byte is between 0 and 255.
abbrev pub IsLegal : Write → Type 0
IsLegal (write_flag f value) = ⊤
IsLegal (write_byte b value) = value < 256

-- `write_flags fs value` lists the writes of `value` to each of the flags `fs`.
abbrev pub write_flags : List Flag → Bool → List Write
write_flags fs value = map (λ f. write_flag f value) fs

-- `flags_with mask` lists the flags whose bits in a format word are 1 in `mask`.
abbrev pub flags_with : ℕ → List Flag
flags_with mask = filter (λ f. part mask (bit f) 1 == 1) flags

-- `flag_written write f` is `Some value` if `write` writes `value` to the flag `f`, and `None` otherwise.
abbrev pub flag_written : Write → Flag → Option Bool
flag_written (write_flag g value) f = if bit g == bit f then Some value else None
flag_written (write_byte b value) f = None

-- `byte_written write b` is `Some value` if `write` writes `value` to the byte `b`, and `None` otherwise.
abbrev pub byte_written : Write → Byte → Option ℕ
byte_written (write_flag f value) b = None
byte_written (write_byte c value) b = if shift c == shift b then Some value else None

-- `last_flag writes f` is the last value written to the flag `f` by `writes`, or `None` if `f` is not written.
abbrev pub last_flag : List Write → Flag → Option Bool
last_flag writes f = last_or None (filter_map (λ x. flag_written x f) writes)

-- `last_byte writes b` is the last value written to the byte `b` by `writes`, or `None` if `b` is not written.
abbrev pub last_byte : List Write → Byte → Option ℕ
last_byte writes b = last_or None (filter_map (λ x. byte_written x b) writes)

-- `after r writes` is `r` after `writes`: each field that is written has the last value written to it.
unfoldable pub after : Record → List Write → Record
after r writes =
    record { flag = λ f. unwrap_or (last_flag writes f) (r.flag f); byte = λ b. unwrap_or (last_byte writes b) (r.byte b) }

-- `changes r write` is true if the value of `write` differs from the value of its field in `r`.
abbrev pub changes : Record → Write → Bool
changes r (write_flag f value) = not (beq (r.flag f) value)
changes r (write_byte b value) = not (r.byte b == value)

-- `SameWrites writes others` holds if `writes` and `others` write the same fields, each with the same last value.
pub record SameWrites (writes others : List Write) : Type 0 where
  pub same_flags : (f : Flag) → last_flag writes f ≡ last_flag others f
  pub same_bytes : (b : Byte) → last_byte writes b ≡ last_byte others b
