-- The bits that a rule reads, for `Rule::mask`.
use Rattle.std.specs.Prelude.{ℕ, ◌+◌, List, [], ◌∷◌, sum_by}
use Rattle.lexical_flags.specs.Layout.{Flag, Byte, separator_flags_in}
use Rattle.lexical_flags.specs.Layout as layout
use Rattle.lexical_flags.specs.Additions.Masks.{byte_mask, mask_of, reserved_mask}
use Rattle.lexical_flags.specs.Rules.{Shape, radix_in_range, absent_or_punctuation, roles_differ, not_both}
use Rattle.lexical_flags.specs.Rules.{position_allowed, shape_of}
use Rattle.lexical_flags.specs.declared.format_flags.rule.Rule.{Rule}
use Rattle.lexical_flags.specs.declared.format_flags.rule.Rule.TheVariants as rules

-- `flags_read shape` lists the flags on which `shape` depends.
abbrev pub flags_read : Shape → List Flag
flags_read roles_differ = layout.case_sensitive_base_prefix ∷ layout.case_sensitive_base_suffix ∷ []
flags_read (not_both a b) = a ∷ b ∷ []
flags_read (position_allowed part) = separator_flags_in part
flags_read _ = []

-- `bytes_read shape` lists the bytes on which `shape` depends.
abbrev pub bytes_read : Shape → List Byte
bytes_read (radix_in_range layout.mantissa_radix) = layout.mantissa_radix ∷ []
bytes_read (radix_in_range byte) = byte ∷ layout.mantissa_radix ∷ []
bytes_read (absent_or_punctuation byte) = byte ∷ layout.mantissa_radix ∷ layout.exponent_radix ∷ []
bytes_read roles_differ = layout.digit_separator ∷ layout.base_prefix ∷ layout.base_suffix ∷ []
bytes_read _ = []

-- `mask_read rule` is the mask of the bits that `rule` reads: the bits of certain fields, or the reserved bits.
abbrev pub mask_read : Rule → ℕ
mask_read rules.ReservedBitsAreZero = reserved_mask
mask_read rule = mask_of (flags_read (shape_of rule)) + sum_by byte_mask (bytes_read (shape_of rule))
