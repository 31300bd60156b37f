use Rattle.lexical_literal.proofs.Common.{is_grouped, length, notation_of, ◌+◌, ◌≡◌, ◌≤◌}
use Rattle.lexical_literal.proofs.GroupLemmas.{counted}
use Rattle.lexical_literal.proofs.group_size.is_grouped.Given as goal

abbrev pub invariant-loop-rest : goal.invariant-loop-rest
invariant-loop-rest l = record {
  digits : l.group.digits + length l.rest ≤ length l.run;
  same : is_grouped (notation_of l.grammar) l.run ≡ counted (notation_of l.grammar) l.group l.rest;
}

abbrev pub decreases-loop-rest : goal.decreases-loop-rest
decreases-loop-rest l = length l.rest
