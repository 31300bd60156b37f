-- The number is behind what was put before.
use Rattle.lexical_writer.proofs.Common.{text_of, ◌∙◌}
use Rattle.lexical_writer.proofs.BufferLemmas.{part_size, put_behind}
use Rattle.lexical_writer.proofs.choice.put_number.Goals as goal

pub returns-clause-text : goal.returns-clause-text
returns-clause-text g c front small is =
    let written = c.in_ok-size.ensures.text in
    let old = c.args.buffer.now in (
      written.0,
      written.1,
      written.2,
      written.4,
      put_behind front (text_of written.0) _ old c.write.new.buffer c.args.start c.in_ok-size.size c.min-least.result c.saturating_add.result small
          c.min-least.ensures c.saturating_add.ensures (c.in_ok-size.ensures.room ∙ part_size c.min-least.result old) is written.3,
    )
