-- The notes on fields that are set but have no effect on any number: a table of three, with four sentences.
use Rattle.std.specs.Prelude.{ℕ, ◌==◌, ◌&&◌, not, Bool, false, if◌then◌else◌, Option, None, Some, List, [], ◌∷◌, map, bit_and, bit_or}
use Rattle.std.specs.Bool.{then_some}
use Rattle.std.specs.List.{list_any}
use Rattle.std.specs.Option.{option_map_or}
use Rattle.lexical_flags.specs.Layout as layout
use Rattle.lexical_flags.specs.Layout.{digit_separator_flags}
use Rattle.lexical_flags.specs.Record.{Record, separator_allowed}
use Rattle.lexical_flags.specs.Roles.{other_case}
use Rattle.lexical_flags.specs.Additions.Masks.{byte_mask, mask_of}
use Rattle.lexical_util.specs.Additions.EditMasks.{mask_of_setter}
use Rattle.lexical_util.specs.Additions.Reasons.{byte_in, is_cased, mask_of_byte}
use Rattle.lexical_util.specs.declared.edits.setters.FlagSetter.{FlagSetter}
use Rattle.lexical_util.specs.declared.edits.setters.FlagSetter.TheVariants as setters
use Rattle.lexical_util.specs.declared.reasons.NamedByte.{NamedByte}
use Rattle.lexical_util.specs.declared.reasons.Reason.{Reason}
use Rattle.lexical_util.specs.declared.reasons.note.Note.{Note}
use Rattle.lexical_util.specs.declared.reasons.note.Note.TheVariants as notes

-- `mask_of_note note` is the number with 1 in the bits of each field that `note` names.
abbrev pub mask_of_note : Note → ℕ
mask_of_note (notes.CaseFlagWithoutByte flag name) = bit_or (mask_of_setter flag) (mask_of_byte name)
mask_of_note (notes.CaseFlagOfNonLetter flag byte) = bit_or (mask_of_setter flag) (mask_of_byte byte.name)
mask_of_note note = bit_or (mask_of digit_separator_flags) (byte_mask layout.digit_separator)

-- `separator_note r` is the note on a separator that no flag of `r` allows, or on flags that allow an absent one.
abbrev pub separator_note : Record → Option Note
separator_note r =
    let byte = byte_in r layout.digit_separator in
    if separator_allowed r then then_some (byte.value == 0) notes.FlagsWithoutSeparator
    else then_some (not (byte.value == 0)) (notes.SeparatorWithoutFlag byte)

-- `case_note r flag byte` is the note on `flag`, the case flag of `byte`, if it is set in `r` and `byte` is absent or not
-- a letter.
abbrev pub case_note : Record → FlagSetter → NamedByte → Option Note
case_note r flag byte =
    then_some (is_cased r byte.name && (other_case byte.value == byte.value))
    (if byte.value == 0 then notes.CaseFlagWithoutByte flag byte.name else notes.CaseFlagOfNonLetter flag byte)

-- `is_blamed reasons mask` is true if one of `reasons` blames a bit of `mask`.
abbrev pub is_blamed : List (Option Reason) → ℕ → Bool
is_blamed reasons mask = list_any (λ slot. option_map_or (λ reason. not (bit_and reason.mask mask == 0)) slot false) reasons

-- `unless_blamed reasons note` is `note` unless one of `reasons` blames a field that it names.
abbrev pub unless_blamed : List (Option Reason) → Option Note → Option Note
unless_blamed reasons None = None
unless_blamed reasons (Some note) = then_some (not (is_blamed reasons (mask_of_note note))) note

-- `notes_of r reasons` has three slots for notes on `r` beside `reasons`: on the separator, and on the case flags of the
-- prefix and of the suffix.
abbrev pub notes_of : Record → List (Option Reason) → List (Option Note)
notes_of r reasons = map (unless_blamed reasons) (
    separator_note r
    ∷ case_note r setters.CaseSensitiveBasePrefix (byte_in r layout.base_prefix)
    ∷ case_note r setters.CaseSensitiveBaseSuffix (byte_in r layout.base_suffix) ∷ [])
