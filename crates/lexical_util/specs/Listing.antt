-- The words that setter calls build, and the single-field setter calls that build a word.
use Rattle.std.specs.Prelude.{ℕ, ◌≡◌, ◌++◌, not, List, [], ◌∷◌, map, filter, All}
use Rattle.lexical_flags.specs.Layout.{flags, bytes}
use Rattle.lexical_flags.specs.Layout as layout
use Rattle.lexical_flags.specs.Record.{Record, pack}
use Rattle.lexical_builder.specs.OptionByte.{option_of_byte}
use Rattle.lexical_builder.specs.Writes.{Write, write_flag, write_byte, IsLegal, new_record, after, changes}
use Rattle.lexical_util.specs.Edits.{flags_of}
use Rattle.lexical_util.specs.declared.edits.setters.Edit.{Edit}
use Rattle.lexical_util.specs.declared.edits.setters.Edit.TheVariants as edits

-- `IsEditOf write edit` holds if `edit` calls the setter of a single field, and its only write is `write`.
abbrev pub IsEditOf : Write → Edit → Type 0
IsEditOf (write_flag f value) (edits.Flag setter flag) = (flags_of setter ≡ f ∷ []) × (flag ≡ value)
IsEditOf (write_flag f value) _ = ⊥
IsEditOf (write_byte layout.digit_separator value) edit = edit ≡ edits.DigitSeparator (option_of_byte value)
IsEditOf (write_byte layout.base_prefix value) edit = edit ≡ edits.BasePrefix (option_of_byte value)
IsEditOf (write_byte layout.base_suffix value) edit = edit ≡ edits.BaseSuffix (option_of_byte value)
IsEditOf (write_byte layout.mantissa_radix value) edit = edit ≡ edits.MantissaRadix value
IsEditOf (write_byte layout.exponent_base value) edit = edit ≡ edits.ExponentBase (option_of_byte value)
IsEditOf (write_byte layout.exponent_radix value) edit = edit ≡ edits.ExponentRadix (option_of_byte value)

-- `field_writes r` lists, for each field, the write of its value in `r`, in the order of the fields' bits.
abbrev pub field_writes : Record → List Write
field_writes r = map (λ f. write_flag f (r.flag f)) flags ++ map (λ b. write_byte b (r.byte b)) bytes

-- `needed_writes r` lists the field writes of `r` that change a new builder.
abbrev pub needed_writes : Record → List Write
needed_writes r = filter (changes new_record) (field_writes r)

-- `other_writes r` lists the field writes of `r` that do not change a new builder.
abbrev pub other_writes : Record → List Write
other_writes r = filter (λ write. not (changes new_record write)) (field_writes r)

-- `IsBuiltByWrites word` holds if a new builder packs into `word` after some legal writes.
pub record IsBuiltByWrites (word : ℕ) : Type 0 where
  pub writes : List Write
  pub legal : All IsLegal writes
  pub makes : pack (after new_record writes) ≡ word
