-- The record of a new builder, and the record of a builder with a given radix.
use Rattle.std.specs.Prelude.{ℕ, ◌==◌, ◌||◌, if◌then◌else◌}
use Rattle.lexical_flags.specs.Layout.{bit, shift}
use Rattle.lexical_flags.specs.Layout as layout
use Rattle.lexical_flags.specs.Record.{Record, set_byte}

-- `new_record` is the record of a new builder: it has radix 10 and requires mantissa and exponent digits.
abbrev pub new_record : Record
new_record = record {
  flag = λ f. bit f == bit layout.required_exponent_digits || bit f == bit layout.required_mantissa_digits;
  byte = λ b. if shift b == shift layout.mantissa_radix then 10 else 0;
}

-- `radix_record radix` is `new_record` with `radix` as mantissa radix, exponent base and exponent radix.
abbrev pub radix_record : ℕ → Record
radix_record radix =
    set_byte (set_byte (set_byte new_record layout.mantissa_radix radix) layout.exponent_base radix)
    layout.exponent_radix radix
