use Rattle.std.proofs.Common.{arith}
use Rattle.lexical_util.proofs.NumeralLemmas.{HasRead-fits, HasRead-next, HasRead-whole}
use Rattle.lexical_util.proofs.numeral.read_numeral.Goals as goal

pub overflow_mul-number : goal.overflow_mul-number
overflow_mul-number c =
    let read = HasRead-next _ _ _ _ _ c.loop-digit.invariant c.loop-digit-test.true c.in_ok-value.ensures.digit in
    record { fits = omega (arith, HasRead-fits _ _ _ _ read c.requires.radix (omega arith)) }

pub returns : goal.returns
returns c = HasRead-whole _ c.args.most _ _ _ c.loop-digit.invariant c.loop-digit-test.false (grind (arith, c.is_empty.ensures)) (omega arith)
