-- What is written of an integer is a literal with its digits.
use Rattle.lexical_writer.proofs.Common.{ap, refusal, sym, ◌∙◌}
use Rattle.lexical_writer.proofs.LiteralLemmas.{laid}
use Rattle.lexical_writer.proofs.integer.WrittenInteger.of_size.Goals as goal

pub returns-in-None-clause-written : goal.returns-in-None-clause-written
returns-in-None-clause-written c =
    let g = c.args.syntax.now in
    let is = c.refusal.ensures.lawful in
    let facts = c.byte_facts.ensures in
    laid g c.args.style _ is (λ byte below used. facts.separator g.word byte is.lawful (facts.mantissa_digit g.word byte is.lawful below) used)
    (ap (refusal g) (sym c.of_size.ensures) ∙ sym c.refusal.ensures.refusal ∙ c.in-None.is)
