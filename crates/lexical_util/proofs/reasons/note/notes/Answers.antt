use Rattle.std.proofs.Common.{◌∙◌, ap}
use Rattle.lexical_flags.specs.Record.{raw}
use Rattle.lexical_util.specs.Additions.Notes.{notes_of}
use Rattle.lexical_util.proofs.reasons.note.notes.Goals as goal

pub returns : goal.returns
returns c = c.notes_beside_reasons.ensures ∙ ap (notes_of (raw c.args.format)) c.reasons.ensures.slots
