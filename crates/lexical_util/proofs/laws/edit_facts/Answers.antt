use Rattle.std.proofs.Common.{ap, subst, IsTrue, ◌∙◌}
use Rattle.std.proofs.lemmas.Bool.{cond-true}
use Rattle.lexical_flags.specs.Layout as layout
use Rattle.lexical_flags.specs.Record.{Record, separator_allowed}
use Rattle.lexical_builder.specs.Writes.{after}
use Rattle.lexical_util.proofs.EditLemmas.{edited-fields}
use Rattle.lexical_util.proofs.laws.edit_facts.Goals as goal

pub returns : goal.returns
unfolding after
returns c = record {
  flag = λ word writes legal f. ap (λ (r : Record). r.flag f) (edited-fields word writes legal);
  base_prefix = λ word writes legal. ap (λ (r : Record). r.byte layout.base_prefix) (edited-fields word writes legal);
  base_suffix = λ word writes legal. ap (λ (r : Record). r.byte layout.base_suffix) (edited-fields word writes legal);
  mantissa_radix = λ word writes legal. ap (λ (r : Record). r.byte layout.mantissa_radix) (edited-fields word writes legal);
  exponent_base = λ word writes legal. ap (λ (r : Record). r.byte layout.exponent_base) (edited-fields word writes legal);
  exponent_radix = λ word writes legal. ap (λ (r : Record). r.byte layout.exponent_radix) (edited-fields word writes legal);
  digit_separator = λ word writes legal allowed.
      let fields = edited-fields word writes legal in
      ap (λ (r : Record). r.byte layout.digit_separator) fields ∙ cond-true _ _ 0 (subst (λ (r : Record). IsTrue (separator_allowed r)) fields allowed);
}
