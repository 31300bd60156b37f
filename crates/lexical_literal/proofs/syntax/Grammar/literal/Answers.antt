-- The radixes are those of a syntax.
use Rattle.lexical_util.specs.declared.format_flags.Part.TheVariants as parts
use Rattle.lexical_literal.proofs.FieldLemmas.{radix_fits}
use Rattle.lexical_literal.proofs.syntax.Grammar.literal.Goals as goal

pub are_few-requires-clause-radix : goal.are_few-requires-clause-radix
are_few-requires-clause-radix c = radix_fits _ parts.Integer _ c.radix_of.ensures c.requires.syntax

pub are_few-requires-2-clause-radix : goal.are_few-requires-2-clause-radix
are_few-requires-2-clause-radix c = radix_fits _ parts.Exponent _ c.radix_of-2.ensures c.requires.syntax
