-- The word is lawful if and only if the packed record of the radix is.
use Rattle.lexical_builder.proofs.Common.{◌↔◌, sym, subst, arith, IsRadix}
use Rattle.lexical_flags.specs.Record.{word_of}
use Rattle.lexical_flags.specs.Rules.{Lawful}
use Rattle.lexical_builder.proofs.RadixLemmas.{radix-lawful}
use Rattle.lexical_builder.proofs.format_builder.NumberFormatBuilder.from_radix.Goals as goal

pub returns-clause-word : goal.returns-clause-word
unfolding word_of
returns-clause-word c = omega arith

pub returns-clause-lawful : goal.returns-clause-lawful
returns-clause-lawful c = subst (λ w. Lawful w ↔ IsRadix c.args.radix) (sym (returns-clause-word c))
    (radix-lawful c.args.radix (omega arith) c.rule_facts.ensures.lawful)
