use Rattle.lexical_builder.proofs.Common.{ap, ◌∙◌, Record, raw-pack}
use Rattle.std.proofs.lemmas.Bool.{cond-false, cond-true}
use Rattle.lexical_flags.specs.Layout as layout
use Rattle.lexical_builder.proofs.laws.builder_facts.Goals as goal

pub returns : goal.returns
returns c = record {
  flag = λ r bytes f. ap (λ (s : Record). s.flag f) (raw-pack r bytes);
  byte = λ r bytes b other. ap (λ (s : Record). s.byte b) (raw-pack r bytes) ∙ cond-false _ _ _ other;
  digit_separator = λ r bytes allowed.
      ap (λ (s : Record). s.byte layout.digit_separator) (raw-pack r bytes) ∙ cond-true _ _ 0 allowed;
}
