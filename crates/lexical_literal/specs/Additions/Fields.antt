-- The fields of a grammar, and the word of its format.
use Rattle.std.specs.Prelude.{ℕ, ◌≡◌, ◌<◌, ◌%◌, ◌^◌, ◌==◌, if◌then◌else◌, Option, Some, None, length}
use Rattle.std.specs.List.{find}
use Rattle.std.specs.Option.{unwrap_or}
use Rattle.std.proofs.Common.{ap, arith}
use Rattle.lexical_flags.proofs.Packing.{low-half, raw-fields}
use Rattle.lexical_util.specs.Layout as layout
use Rattle.lexical_util.specs.Layout.{Byte, Flag, bit}
use Rattle.lexical_util.specs.Record.{Record, SeparatorAllowedOrAbsent, bytes_of, effective, record_of, word_from}
use Rattle.lexical_literal.specs.Notation.{all_conditions}
use Rattle.lexical_literal.specs.Worded.{Worded}
use Rattle.lexical_literal.specs.declared.syntax.Options.{Options}
use Rattle.lexical_literal.specs.declared.syntax.Grammar.TheInside.{Inside}

-- `byte_of a` has the bytes of the format of `a`.
abbrev pub byte_of : Inside → Byte → ℕ
byte_of a layout.digit_separator = a.separator
byte_of a layout.base_prefix = a.prefix
byte_of a layout.base_suffix = a.suffix
byte_of a layout.mantissa_radix = a.radix
byte_of a layout.exponent_base = a.exponent_base
byte_of a layout.exponent_radix = a.exponent_radix

-- `options_if exponent point` are options, or `None` if `point` is 0.
abbrev pub options_if : ℕ → ℕ → Option Options
options_if exponent point = if point == 0 then None else Some (record { exponent = exponent; point = point })

-- `options_of a` are the options of `a`, or `None` if literals are integers.
abbrev pub options_of : Inside → Option Options
options_of a = options_if a.exponent a.point

-- `worded a` is what contracts see of `a`.
abbrev pub worded : Inside → Worded
worded a = record { word = word_from a.flags (byte_of a); options = options_of a; conditions = a.conditions }

-- `AreFields a` holds if the numbers fit, if absent bytes of the exponent are filled, and if a separator that no flag allows and an
-- exponent character without a decimal point are absent.
pub record AreFields (a : Inside) : Type 0 where
  pub flags : a.flags < 2 ^ 64
  pub bytes : (b : Byte) → byte_of a b < 2 ^ 8
  pub base : effective a.exponent_base a.radix ≡ a.exponent_base
  pub radix : effective a.exponent_radix a.radix ≡ a.exponent_radix
  pub separator : SeparatorAllowedOrAbsent (record_of a.flags (byte_of a))
  pub exponent : a.point ≡ 0 → a.exponent ≡ 0
  pub conditions : length a.conditions.numbers ≡ length all_conditions

-- `exponent_in options` and `point_in options` are the exponent character and the decimal point, or 0.
abbrev pub exponent_in : Option Options → ℕ
exponent_in None = 0
exponent_in (Some options) = options.exponent

abbrev pub point_in : Option Options → ℕ
point_in None = 0
point_in (Some options) = options.point

-- `fields_of g` has the fields of `g`.
abbrev pub fields_of : Worded → Inside
fields_of g = record {
  exponent_radix = bytes_of g.word layout.exponent_radix;
  exponent_base = bytes_of g.word layout.exponent_base;
  radix = bytes_of g.word layout.mantissa_radix;
  suffix = bytes_of g.word layout.base_suffix;
  prefix = bytes_of g.word layout.base_prefix;
  separator = bytes_of g.word layout.digit_separator;
  flags = g.word % 2 ^ 64;
  exponent = exponent_in g.options;
  point = point_in g.options;
  conditions = g.conditions;
}

exponent_same : (point exponent : ℕ) → (point ≡ 0 → exponent ≡ 0)
    → exponent_in (if point == 0 then None else Some (record { exponent = exponent; point = point })) ≡ exponent
exponent_same point exponent none = grind arith

point_same : (point exponent : ℕ) → point_in (if point == 0 then None else Some (record { exponent = exponent; point = point })) ≡ point
point_same point exponent = grind arith

-- The fields of what contracts see are the fields.
pub fields_same : (a : Inside) → AreFields a → fields_of (worded a) ≡ a
fields_same a h i =
    let same = ap (λ (r : Record). r.byte) (raw-fields a.flags (byte_of a) h.flags h.bytes) in
    record {
      exponent_radix = same i layout.exponent_radix;
      exponent_base = same i layout.exponent_base;
      radix = same i layout.mantissa_radix;
      suffix = same i layout.base_suffix;
      prefix = same i layout.base_prefix;
      separator = same i layout.digit_separator;
      flags = low-half a.flags (byte_of a) h.flags i;
      exponent = exponent_same a.point a.exponent h.exponent i;
      point = point_same a.point a.exponent i;
      conditions = a.conditions;
    }

-- `flag_of mask` is the flag with the mask `mask`.
abbrev pub flag_of : ℕ → Flag
flag_of mask = unwrap_or (find (λ f. 2 ^ bit f == mask) layout.flags) layout.special_digit_separator
