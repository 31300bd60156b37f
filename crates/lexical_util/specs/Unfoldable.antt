-- The definitions that the proof of a caller may unfold, if the caller has an attribute such as `#[tactic(auto,
-- unfolding(lexical_util::specs::Unfoldable::cased))]`.
use Rattle.std.specs.Prelude.{⊤}
use Rattle.lexical_flags.specs.Literals.{on_literals as flags_on_literals}
use Rattle.lexical_util.specs.Groups.{any_flag, bits_of}
unfoldable pub use Rattle.lexical_base.specs.Digits.{byte_value}
unfoldable pub use Rattle.lexical_flags.specs.Record.{word_of}
unfoldable pub use Rattle.lexical_flags.specs.Common.{common}
unfoldable pub use Rattle.lexical_flags.specs.Roles.{Disjoint, are_disjoint, cased}
unfoldable pub use Rattle.lexical_flags.specs.Rules.{IsPunctuation, Holds, IsErrorOf, Lawful}
unfoldable pub use Rattle.lexical_builder.specs.Writes.{after}

-- `on_literals` unfolds everything that a proof needs to compute with literals: the fields of a word, its error,
-- digits, flag groups, packed and edited words, and normal forms.
unfoldable pub on_literals : ⊤
unfolding flags_on_literals after any_flag bits_of
on_literals = tt
