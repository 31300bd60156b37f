-- Normal forms, and equivalent words, which have the same normal form.
use Rattle.std.specs.Prelude.{◌≡◌, ℕ, IsTrue, []}
use Rattle.lexical_flags.specs.Layout as layout
use Rattle.lexical_flags.specs.Layout.{Flag, IsClean}
use Rattle.lexical_flags.specs.Record.{Record, raw, separator_allowed, SeparatorAllowedOrAbsent}
use Rattle.lexical_flags.specs.Record.{effective_exponent_base}
use Rattle.lexical_flags.specs.Record.{effective_exponent_radix}
use Rattle.lexical_util.specs.Edits.{edited}

-- `normal_form_of word` is the result of editing `word` with an empty list of writes.
abbrev pub normal_form_of : ℕ → ℕ
normal_form_of word = edited word []

-- `SameFormat r s` holds if `r` and `s` are equivalent: they have the same flags, prefix, suffix, mantissa radix and
-- effective exponent bytes. If a flag of `r` allows a separator, they also have the same separator.
pub record SameFormat (r s : Record) : Type 0 where
  pub flags : (f : Flag) → r.flag f ≡ s.flag f
  pub base_prefix : r.byte layout.base_prefix ≡ s.byte layout.base_prefix
  pub base_suffix : r.byte layout.base_suffix ≡ s.byte layout.base_suffix
  pub mantissa_radix : r.byte layout.mantissa_radix ≡ s.byte layout.mantissa_radix
  pub exponent_base : effective_exponent_base r ≡ effective_exponent_base s
  pub exponent_radix : effective_exponent_radix r ≡ effective_exponent_radix s
  pub digit_separator : IsTrue (separator_allowed r) → r.byte layout.digit_separator ≡ s.byte layout.digit_separator

-- `IsNormal word` holds if the reserved bits of `word` are 0, its separator is absent or allowed by a flag, and its
-- exponent bytes are not 0 unless the mantissa radix is 0 too.
pub record IsNormal (word : ℕ) : Type 0 where
  pub clean : IsClean word
  pub separator_used : SeparatorAllowedOrAbsent (raw word)
  pub exponent_base : (raw word).byte layout.exponent_base ≡ 0 → (raw word).byte layout.mantissa_radix ≡ 0
  pub exponent_radix : (raw word).byte layout.exponent_radix ≡ 0 → (raw word).byte layout.mantissa_radix ≡ 0
