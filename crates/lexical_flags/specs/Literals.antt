-- The definitions that a proof unfolds to compute with words that are literals.
use Rattle.std.specs.Prelude.{⊤}
use Rattle.lexical_base.specs.Digits.{byte_value}
use Rattle.lexical_flags.specs.Common.{common}
use Rattle.lexical_flags.specs.Record.{word_of}
use Rattle.lexical_flags.specs.Roles.{Disjoint, are_disjoint, cased}
use Rattle.lexical_flags.specs.Rules.{IsPunctuation, Holds, IsErrorOf, Lawful}

-- `on_literals` unfolds the definitions of packing, and of the digits, the roles, the rules and the error of a word.
unfoldable pub on_literals : ⊤
unfolding byte_value word_of common Disjoint are_disjoint cased IsPunctuation Holds IsErrorOf Lawful
on_literals = tt
