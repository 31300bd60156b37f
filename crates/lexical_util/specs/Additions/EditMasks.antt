-- The argument of an edit as a byte, and the bits that an edit writes, for `argument_byte` and `mask` of `Edit`.
use Rattle.std.specs.Prelude.{ℕ, ◌^◌, if◌then◌else◌, sum_by}
use Rattle.lexical_flags.specs.Layout.{bit}
use Rattle.lexical_flags.specs.Additions.Masks.{byte_mask, mask_of}
use Rattle.lexical_builder.specs.OptionByte.{byte_of_option}
use Rattle.lexical_builder.specs.Writes.{Write, write_flag, write_byte}
use Rattle.lexical_util.specs.Edits.{flags_of, writes_of}
use Rattle.lexical_util.specs.declared.edits.setters.FlagSetter.{FlagSetter}
use Rattle.lexical_util.specs.declared.edits.setters.Edit.{Edit}
use Rattle.lexical_util.specs.declared.edits.setters.Edit.TheVariants as edits

-- `argument_byte edit` is the argument of `edit` as a byte: 1 for `true`, and 0 for `false` or an absent byte.
abbrev pub argument_byte : Edit → ℕ
argument_byte (edits.Flag setter flag) = if flag then 1 else 0
argument_byte (edits.DigitSeparator byte) = byte_of_option byte
argument_byte (edits.BasePrefix byte) = byte_of_option byte
argument_byte (edits.BaseSuffix byte) = byte_of_option byte
argument_byte (edits.MantissaRadix radix) = radix
argument_byte (edits.Radix radix) = radix
argument_byte (edits.ExponentBase base) = byte_of_option base
argument_byte (edits.ExponentRadix radix) = byte_of_option radix

-- `mask_of_setter setter` is the number with 1 in the bits that the flag setter `setter` writes.
abbrev pub mask_of_setter : FlagSetter → ℕ
mask_of_setter setter = mask_of (flags_of setter)

-- `mask_of_write write` is the number with 1 in the bits of a word that `write` writes.
abbrev pub mask_of_write : Write → ℕ
mask_of_write (write_flag f value) = 2 ^ bit f
mask_of_write (write_byte b value) = byte_mask b

-- `mask_of_edit edit` is the number with 1 in the bits of a word that `edit` writes.
abbrev pub mask_of_edit : Edit → ℕ
mask_of_edit edit = sum_by mask_of_write (writes_of edit)
