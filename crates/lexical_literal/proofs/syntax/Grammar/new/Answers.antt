-- The fields are those of the word.
use Rattle.lexical_literal.proofs.Common.{refl}
use Rattle.lexical_literal.proofs.FieldLemmas.{are_fields, worded_is}
use Rattle.lexical_literal.proofs.syntax.Grammar.new.Goals as goal

pub invariant_of-result : goal.invariant_of-result
invariant_of-result c = are_fields c.args.word c.ranges.word.fits c.requires.normal _ refl c.exponent_radix.ensures.value c.exponent_base.ensures.value
    c.mantissa_radix.ensures.value c.base_suffix.ensures c.base_prefix.ensures (c.used_separator.ensures c.requires.normal.separator_used)
    c.requires.options refl

pub returns : goal.returns
returns c = worded_is c.args.word c.ranges.word.fits c.requires.normal _ refl c.exponent_radix.ensures.value c.exponent_base.ensures.value
    c.mantissa_radix.ensures.value c.base_suffix.ensures c.base_prefix.ensures (c.used_separator.ensures c.requires.normal.separator_used)
