-- A format as a record of its fields, and the words that express it.
use Rattle.std.specs.Prelude.{ℕ, ◌+◌, ◌*◌, ◌/◌, ◌%◌, ◌^◌, ◌<◌, ◌≡◌, ◌==◌, ◌⊎◌, Bool, IsTrue, if◌then◌else◌, sum_by}
use Rattle.std.specs.List.{list_any}
use Rattle.lexical_flags.specs.Layout.{Flag, Byte, bit, shift, flags, bytes, digit_separator_flags, IsClean}
use Rattle.lexical_flags.specs.Layout as layout

-- `Record` has the fields of a format: a truth value for each flag, and a number for each byte, which is 0 if absent.
pub record Record : Type 0 where
  pub flag : Flag → Bool
  pub byte : Byte → ℕ

-- `set_byte r b value` is `r` with `value` as its byte `b`.
abbrev pub set_byte : Record → Byte → ℕ → Record
set_byte r b value = record r { byte = λ c. if shift c == shift b then value else r.byte c }

-- `bytes_of word b` is the byte `b` of `word`.
abbrev pub bytes_of : ℕ → Byte → ℕ
bytes_of word b = word / 2 ^ shift b % 2 ^ 8

-- `raw word` is the record of the fields of `word`.
abbrev pub raw : ℕ → Record
raw word = record { flag = λ f. word / 2 ^ bit f % 2 == 1; byte = bytes_of word }

-- `record_of flags byte` is the record of the flags of the word `flags` and of the bytes `byte`.
abbrev pub record_of : ℕ → (Byte → ℕ) → Record
record_of flags byte = record { flag = (raw flags).flag; byte = byte }

-- `word_from flags byte` is the word with the lower half `flags` and the bytes `byte`.
abbrev pub word_from : ℕ → (Byte → ℕ) → ℕ
word_from flags byte = flags + sum_by (λ b. byte b * 2 ^ shift b) bytes

-- `effective byte mantissa_radix` is the exponent byte `byte`, or the mantissa radix if `byte` is 0.
abbrev pub effective : ℕ → ℕ → ℕ
effective byte mantissa_radix = if byte == 0 then mantissa_radix else byte

-- `effective_exponent_base r` is the exponent base of `r`, or the mantissa radix if the exponent base is 0.
abbrev pub effective_exponent_base : Record → ℕ
effective_exponent_base r = effective (r.byte layout.exponent_base) (r.byte layout.mantissa_radix)

-- `effective_exponent_radix r` is the exponent radix of `r`, or the mantissa radix if the exponent radix is 0.
abbrev pub effective_exponent_radix : Record → ℕ
effective_exponent_radix r = effective (r.byte layout.exponent_radix) (r.byte layout.mantissa_radix)

-- `fill r` is `r` with the effective exponent base and radix as its exponent bytes.
abbrev pub fill : Record → Record
fill r =
    set_byte (set_byte r layout.exponent_base (effective_exponent_base r)) layout.exponent_radix (effective_exponent_radix r)

-- `separator_allowed r` is true if some flag of `r` allows a digit separator.
abbrev pub separator_allowed : Record → Bool
separator_allowed r = list_any r.flag digit_separator_flags

-- `SeparatorAllowedOrAbsent r` holds if `r` has no digit separator, or if some flag of `r` allows one.
abbrev pub SeparatorAllowedOrAbsent : Record → Type 0
SeparatorAllowedOrAbsent r = IsTrue (separator_allowed r) ⊎ (r.byte layout.digit_separator ≡ 0)

-- `trim r` is `r` with its digit separator set to 0 if no flag of `r` allows one.
abbrev pub trim : Record → Record
trim r = set_byte r layout.digit_separator (if separator_allowed r then r.byte layout.digit_separator else 0)

-- `flag_bits r f` is the part of the sum `word_of r` that comes from the flag `f`.
abbrev pub flag_bits : Record → Flag → ℕ
flag_bits r f = if r.flag f then 2 ^ bit f else 0

-- `byte_bits r b` is the part of the sum `word_of r` that comes from the byte `b`.
abbrev pub byte_bits : Record → Byte → ℕ
byte_bits r b = r.byte b * 2 ^ shift b

-- `word_of r` is the sum of the fields of `r`, each shifted to its bits.
unfoldable pub word_of : Record → ℕ
word_of r = sum_by (flag_bits r) flags + sum_by (byte_bits r) bytes

-- `pack r` is the word with the fields of `trim r`.
abbrev pub pack : Record → ℕ
pack r = word_of (trim r)

-- `IsBuilt word` holds if `word` has no reserved bit set, and no digit separator unless a flag allows one.
pub record IsBuilt (word : ℕ) : Type 0 where
  pub clean : IsClean word
  pub separator_used : SeparatorAllowedOrAbsent (raw word)

-- `HasBytes r` holds if each byte of `r` is between 0 and 255.
pub record HasBytes (r : Record) : Type 0 where
  pub each : (b : Byte) → r.byte b < 256
