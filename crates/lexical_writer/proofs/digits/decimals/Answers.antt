-- Two more digits are written before those that have been written.
use Rattle.lexical_writer.proofs.Common.{ap, append-nil, arith, character, digits_of, drop_all, false, length, length-digits_of-le, map, ◌++◌, ◌∙◌}
use Rattle.lexical_writer.proofs.DigitLemmas.{two_more, two_shorter}
use Rattle.lexical_writer.proofs.digits.decimals.Goals as goal

pub loop-left-init : goal.loop-left-init
loop-left-init c =
    let text = map (character false) (digits_of 10 c.args.number) in
    record {
      within = omega arith;
      room = omega (arith, length-digits_of-le 10 20 c.args.number (omega arith) (omega arith), c.requires);
      text = ap (λ t. text ++ t) (drop_all (length c.args.buffer.now) c.args.buffer.now (omega arith)) ∙ append-nil text;
    }

pub loop-left-preserved : goal.loop-left-preserved
loop-left-preserved c =
    let l = c.loop-left in
    let shorter = two_shorter l.left c.loop-left-test.true in
    record {
      within = omega (arith, l.invariant.within);
      room = omega (arith, shorter, l.invariant.room);
      text = two_more l.left l.start c.two_characters-tens.result.0 c.two_characters-tens.result.1 l.buffer c.loop-left-test.true
          (omega (arith, shorter, l.invariant.room)) (omega arith) c.two_characters-tens.ensures.tens c.two_characters-tens.ensures.ones ∙ l.invariant.text;
    }
