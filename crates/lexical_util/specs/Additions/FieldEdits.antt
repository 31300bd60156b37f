-- The single-field edits of a record, for `field_edits_of`.
use Rattle.std.specs.Prelude.{List, [], ◌∷◌, map, find, unwrap_or}
use Rattle.std.specs.Str.{bytes_eq}
use Rattle.lexical_flags.specs.Layout.{Flag, bit}
use Rattle.lexical_flags.specs.Layout as layout
use Rattle.lexical_flags.specs.Record.{Record}
use Rattle.lexical_builder.specs.OptionByte.{option_of_byte}
use Rattle.lexical_builder.specs.Writes.{Write, write_flag, write_byte}
use Rattle.lexical_util.specs.Edits.{flags_of}
use Rattle.lexical_util.specs.Listing.{field_writes, needed_writes, other_writes}
use Rattle.lexical_util.specs.declared.edits.setters.FlagSetter.{FlagSetter}
use Rattle.lexical_util.specs.declared.edits.setters.FlagSetter.TheVariants as setters
use Rattle.lexical_util.specs.declared.edits.setters.TheConstants.{SETTERS}
use Rattle.lexical_util.specs.declared.edits.setters.Edit.{Edit}
use Rattle.lexical_util.specs.declared.edits.setters.Edit.TheVariants as edits

-- `flag_setter f` is the setter that writes only the flag `f`.
abbrev pub flag_setter : Flag → FlagSetter
flag_setter f = unwrap_or (find (λ setter. bytes_eq (map bit (flags_of setter)) (bit f ∷ [])) SETTERS) setters.NoSpecial

-- `edit_of_write write` is the single-field edit whose only write is `write`.
abbrev pub edit_of_write : Write → Edit
edit_of_write (write_flag f value) = edits.Flag (flag_setter f) value
edit_of_write (write_byte layout.digit_separator value) = edits.DigitSeparator (option_of_byte value)
edit_of_write (write_byte layout.base_prefix value) = edits.BasePrefix (option_of_byte value)
edit_of_write (write_byte layout.base_suffix value) = edits.BaseSuffix (option_of_byte value)
edit_of_write (write_byte layout.mantissa_radix value) = edits.MantissaRadix value
edit_of_write (write_byte layout.exponent_base value) = edits.ExponentBase (option_of_byte value)
edit_of_write (write_byte layout.exponent_radix value) = edits.ExponentRadix (option_of_byte value)

-- `field_edits r` lists the edits that write all fields of `r` with their values, in the order of the fields' bits.
abbrev pub field_edits : Record → List Edit
field_edits r = map edit_of_write (field_writes r)

-- `needed_edits r` lists the edits that write the fields in which `r` differs from a new builder.
abbrev pub needed_edits : Record → List Edit
needed_edits r = map edit_of_write (needed_writes r)

-- `other_edits r` lists the edits that write the fields in which `r` is equal to a new builder.
abbrev pub other_edits : Record → List Edit
other_edits r = map edit_of_write (other_writes r)
