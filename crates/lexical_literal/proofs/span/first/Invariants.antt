use Rattle.lexical_literal.proofs.Common.{kind_set, length, notation_of, position_or_len, ◌+◌, ◌-◌, ◌≡◌, ◌≤◌}
use Rattle.lexical_literal.proofs.span.first.Given as goal

abbrev pub invariant-loop-rest : goal.invariant-loop-rest
invariant-loop-rest l = record {
  within : length l.rest ≤ length l.text;
  same : position_or_len (kind_set (notation_of l.grammar) l.kind) l.text
      ≡ length l.text - length l.rest + position_or_len (kind_set (notation_of l.grammar) l.kind) l.rest;
}

abbrev pub decreases-loop-rest : goal.decreases-loop-rest
decreases-loop-rest l = length l.rest
