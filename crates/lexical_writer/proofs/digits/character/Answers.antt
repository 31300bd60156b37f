-- The character is that of the digit, in either case.
use Rattle.lexical_writer.proofs.Common.{ap, character, get_or_from_slice_get, sym, ◌∙◌}
use Rattle.std.specs.Char.{to_ascii_lowercase}
use Rattle.lexical_base.specs.Digits.{digit_characters}
use Rattle.lexical_writer.proofs.digits.character.Goals as goal

pub returns-then-lowercase : goal.returns-then-lowercase
returns-then-lowercase c =
    c.to_ascii_lowercase.ensures.value
    ∙ ap to_ascii_lowercase
    (sym (get_or_from_slice_get digit_characters c.args.digit c.digit_to_char-uppercase.result 0 c.digit_to_char-uppercase.ensures.character))
    ∙ sym (ap (λ lower. character lower c.args.digit) c.if-lowercase.true)

pub returns-else-lowercase : goal.returns-else-lowercase
returns-else-lowercase c =
    sym (get_or_from_slice_get digit_characters c.args.digit c.digit_to_char-uppercase.result 0 c.digit_to_char-uppercase.ensures.character)
    ∙ sym (ap (λ lower. character lower c.args.digit) c.if-lowercase.false)
