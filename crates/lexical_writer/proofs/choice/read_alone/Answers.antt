-- The list reads the text as a literal that is worth the number.
use Rattle.lexical_writer.proofs.Common.{sym, ◌∙◌}
use Rattle.lexical_forms.proofs.BehindLemmas.{no_size}
use Rattle.lexical_writer.proofs.BufferLemmas.{plain_by}
use Rattle.lexical_writer.proofs.choice.read_alone.Goals as goal

pub returns-in-Ok-clause-value : goal.returns-in-Ok-clause-value
returns-in-Ok-clause-value g c =
    let none = no_size _ c.has_opening.result c.has_opening.ensures c.if-not-has_opening.true in
    let written = c.in-Ok.ensures.value in
    (written.0, written.1, written.2 ∙ sym (plain_by c.args.form.now written.0 none), written.3)
