-- What is written has the value.
use Rattle.lexical_writer.proofs.Common.{integer_literal, sym, with_sign}
use Rattle.lexical_writer.proofs.choice.WholeWritable.write.Goals as goal

pub returns-clause-text : goal.returns-clause-text
returns-clause-text c =
    let written = c.in_ok-integer.ensures in
    let l = integer_literal c.in_ok-integer.integer in
    let number = written.written.1 in (
      l,
      written.written.0,
      (written.parts, λ i. with_sign (sym number.sign i) (sym number.integer i)),
      c.write.ensures,
      c.is_float.ensures,
    )
