use Rattle.std.proofs.Common.{rules}
use Rattle.lexical_base.proofs.ValueLemmas.{byte_value-digit_character, digit_character-get, digit_of-digit_character, digit_character-uppercase}
use Rattle.lexical_base.proofs.digit.digit_to_char.Goals as goal

pub returns : goal.returns
returns c = search (rules, digit_character-get, byte_value-digit_character, digit_character-uppercase, digit_of-digit_character)
