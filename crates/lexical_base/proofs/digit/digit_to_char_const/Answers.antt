use Rattle.std.proofs.Common.{◌+◌, ◌-◌, arith}
use Rattle.lexical_base.proofs.ValueLemmas.{character_is_letter}
use Rattle.lexical_base.proofs.digit.digit_to_char_const.Goals as goal

pub returns-else-digit-lt10-clause-character : goal.returns-else-digit-lt10-clause-character
returns-else-digit-lt10-clause-character c = λ _. character_is_letter c.args.digit (c.args.digit + 65 - 10) c.if-digit-lt10.false.1 c.requires (omega arith)
