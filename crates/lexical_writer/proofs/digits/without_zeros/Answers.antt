-- Behind leading zeros are the digits of the number.
use Rattle.lexical_writer.proofs.Common.{ap, arith, digits_in, digits_of, drop, length-drop, sym, take_all, ◌∙◌}
use Rattle.lexical_writer.proofs.DigitLemmas.{lead}
use Rattle.lexical_writer.proofs.digits.without_zeros.Goals as goal

pub returns-in-Some-1-to-4294967295 : goal.returns-in-Some-1-to-4294967295
returns-in-Some-1-to-4294967295 c =
    let l = c.loop-index in
    let bytes = c.args.bytes.now in
    let radix = c.args.radix in
    ap (digits_in radix) (take_all _ (drop l.index bytes) (omega (arith, length-drop l.index bytes)))
    ∙ lead radix l.index c.in-Some-1-to-4294967295.field-0 bytes c.requires.0 c.loop-index-test.true
    (sym c.char_to_digit.ensures.digit ∙ c.in-Some-1-to-4294967295.is) (omega arith)
    ∙ ap (digits_of radix) l.invariant
