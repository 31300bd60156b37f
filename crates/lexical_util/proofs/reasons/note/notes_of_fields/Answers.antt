use Rattle.std.proofs.Common.{◌≡◌, ◌∙◌, ap, sym}
use Rattle.lexical_builder.specs.OptionByte.{byte_of_option}
use Rattle.lexical_util.proofs.Lower.{byte_of_option_back}
use Rattle.lexical_flags.specs.Layout as layout
use Rattle.lexical_flags.specs.Record.{Record, trim, set_byte}
use Rattle.lexical_util.specs.Additions.Notes.{notes_of}
use Rattle.lexical_util.specs.Additions.Reasons.{reasons_of}
use Rattle.lexical_util.proofs.reasons.note.notes_of_fields.Goals as goal
use Rattle.lexical_util.proofs.reasons.note.notes_of_fields.Goals.{in-Some, in-None}

-- The packed record with the builder's separator and the builder's record are not equal by computation, but their notes
-- are equal.
pub returns : goal.returns
returns c =
    let r = c.args.builder.now in
    let reasons = c.reasons.result in
    let separator = c.match-get_digit_separator.separator in
    let own : separator ≡ r.byte layout.digit_separator = elim c.match-get_digit_separator.branch [
      | in-Some w ↦ w.separator-is ∙ w.get-separator.ensures.value
          ∙ ap byte_of_option (sym w.in-Some.is ∙ c.get_digit_separator.ensures) ∙ byte_of_option_back _
      | in-None w ↦ w.separator-is ∙ ap byte_of_option (sym w.in-None.is ∙ c.get_digit_separator.ensures) ∙ byte_of_option_back _
    ] in
    c.notes_beside.ensures ∙ ap (λ (s : Record). notes_of (set_byte s layout.digit_separator separator) reasons) c.build_unchecked-format.ensures.fields
    ∙ ap (λ byte. notes_of (set_byte (trim r) layout.digit_separator byte) reasons) own
    ∙ ap (notes_of r) (c.reasons.ensures.slots ∙ ap reasons_of c.build_unchecked-format.ensures.word)
