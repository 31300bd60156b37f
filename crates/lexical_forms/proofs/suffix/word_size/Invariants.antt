use Rattle.lexical_forms.proofs.Common.{length, word_size, ◌+◌, ◌-◌, ◌≡◌, ◌≤◌}
use Rattle.lexical_forms.proofs.suffix.word_size.Given as goal

abbrev pub invariant-loop-rest : goal.invariant-loop-rest
invariant-loop-rest l = record {
  within : length l.rest ≤ length l.text;
  same : word_size l.more l.text ≡ length l.text - length l.rest + word_size l.more l.rest;
}

abbrev pub decreases-loop-rest : goal.decreases-loop-rest
decreases-loop-rest l = length l.rest
