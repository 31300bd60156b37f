-- Each field is that of the definition.
use Rattle.lexical_literal.proofs.Common.{ap, length, notation_of, position_or_len, take, ◌∙◌}
use Rattle.lexical_util.specs.declared.format_flags.Part.TheVariants as parts
use Rattle.lexical_literal.proofs.span.spot.Goals as goal

pub returns : goal.returns
returns c = λ i. record {
  grammar = c.args.grammar;
  read = c.args.read;
  byte = c.args.byte;
  tail = c.args.tail;
  size = length c.args.front.now;
  exponent = c.body_ends-exponent.ensures.exponent i;
  first = (c.first.ensures ∙ ap (λ front. position_or_len ((notation_of c.args.grammar).digit parts.Integer) front)
      (c.front_of.ensures ∙ ap (λ n. take n c.args.front.now) c.body_ends-exponent.ensures.run)) i;
  run = c.body_ends-exponent.ensures.run i;
  group = c.group_start.ensures i;
  separated = c.args.separated;
}
