-- A grammar as contracts see it.
use Rattle.std.specs.Prelude.{ℕ, Option}
use Rattle.lexical_literal.specs.declared.syntax.Conditions.{Conditions}
use Rattle.lexical_literal.specs.declared.syntax.Options.{Options}

-- `Worded` has the word of a format, the options and the conditions. Without options, literals are integers.
pub record Worded : Type 0 where
  pub word : ℕ
  pub options : Option Options
  pub conditions : Conditions
