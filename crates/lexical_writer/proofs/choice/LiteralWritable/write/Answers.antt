-- What is written has the value of the literal.
use Rattle.lexical_writer.proofs.Common.{literal_of, refl}
use Rattle.lexical_writer.proofs.choice.LiteralWritable.write.Goals as goal

pub returns-clause-text : goal.returns-clause-text
returns-clause-text c =
    let written = c.in_ok-format_literal.ensures in (
      literal_of c.in_ok-format_literal.field-0,
      written.literal,
      ((c.in_ok-format_literal.field-0, refl, written.parts), written.value),
      c.put.ensures.text,
      c.put.ensures.float,
    )
