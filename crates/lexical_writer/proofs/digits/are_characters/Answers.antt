-- One more byte is a digit.
use Rattle.lexical_writer.proofs.Common.{arith, digit_characters, get_or, get_or_from_slice_get, ◌∙◌, ◌≡◌}
use Rattle.lexical_writer.proofs.DigitLemmas.{more_characters}
use Rattle.lexical_writer.proofs.digits.are_characters.Goals as goal

pub loop-byte-preserved : goal.loop-byte-preserved
loop-byte-preserved c rest =
    let i = c.loop-byte.byte-index in
    let bytes = c.args.bytes.now in
    let same : c.digit_to_char.result ≡ get_or bytes i 0 = omega (arith, c.if-digit_to_char-byte.false) in
    c.loop-byte.invariant (more_characters c.args.radix i c.in-Some.digit bytes c.char_to_digit.result c.loop-byte-test.true c.char_to_digit.ensures.digit
    c.in-Some.is (get_or_from_slice_get digit_characters c.in-Some.digit c.digit_to_char.result 0 c.digit_to_char.ensures.character ∙ same) rest)
