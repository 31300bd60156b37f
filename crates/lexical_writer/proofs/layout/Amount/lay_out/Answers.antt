-- What is laid out is a literal with the digits of the amount.
use Rattle.lexical_writer.proofs.Common.{HasNumber, Literal, Reads, laid_out, notation_of, subst, sym, text_of, ◌∙◌}
use Rattle.lexical_writer.proofs.LiteralLemmas.{laid}
use Rattle.lexical_writer.proofs.layout.Amount.lay_out.Goals as goal

both : (c : goal.After-parts) → let l = laid_out c.args.syntax.now c.args.style c.args.self.now in
    Reads (notation_of c.args.syntax.now) l (text_of l) × HasNumber c.args.syntax.now c.args.self.now l
both c =
    let facts = c.byte_facts.ensures in
    let g = c.args.syntax.now in
    let lawful = c.refusal.ensures.lawful.lawful in
    laid g c.args.style c.args.self.now c.refusal.ensures.lawful
    (λ byte below used. facts.separator g.word byte lawful (facts.mantissa_digit g.word byte lawful below) used) (sym c.refusal.ensures.refusal ∙ c.in-None.is)

pub returns-in-None-clause-literal : goal.returns-in-None-clause-literal
returns-in-None-clause-literal c =
    subst (λ (l : Literal). Reads (notation_of c.args.syntax.now) l (text_of l)) (sym c.parts.ensures) (both c).0

pub returns-in-None-clause-number : goal.returns-in-None-clause-number
returns-in-None-clause-number c = subst (HasNumber c.args.syntax.now c.args.self.now) (sym c.parts.ensures) (both c).1
