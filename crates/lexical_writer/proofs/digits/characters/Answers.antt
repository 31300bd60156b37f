-- One more digit is written before those that have been written.
use Rattle.lexical_writer.proofs.Common.{ap, append-nil, arith, character, digits_of, drop_all, false, length, length-digits_of-le, length-digits_of_step, map}
use Rattle.lexical_writer.proofs.Common.{pow-le-pow_left, ◌++◌, ◌∙◌}
use Rattle.lexical_writer.proofs.DigitLemmas.{one_more}
use Rattle.lexical_writer.proofs.digits.characters.Goals as goal

pub loop-left-init : goal.loop-left-init
loop-left-init c =
    let text = map (character false) (digits_of c.args.radix c.args.number) in
    record {
      within = omega arith;
      room = length-digits_of-le c.args.radix (length c.args.buffer.now) c.args.number c.requires.radix.0
          (omega (arith, pow-le-pow_left c.requires.radix.0 (length c.args.buffer.now), c.requires.room));
      text = ap (λ t. text ++ t) (drop_all (length c.args.buffer.now) c.args.buffer.now (omega arith)) ∙ append-nil text;
    }

pub loop-left-preserved : goal.loop-left-preserved
loop-left-preserved c =
    let l = c.loop-left in
    let shorter = length-digits_of_step c.args.radix l.left c.requires.radix.0 c.loop-left-test.true in
    record {
      within = omega arith;
      room = rw (c.split_last-rest.ensures.rest) (omega arith);
      text = rw (c.split_last-rest.ensures.rest) (one_more c.args.radix l.left l.start c.digit_to_char.result l.buffer c.requires.radix.0 c.loop-left-test.true
          (omega arith) (omega arith) (rw (c.split_last-rest.ensures.digit) at c.digit_to_char.ensures.character) ∙ l.invariant.text);
    }
