use Rattle.lexical_literal.proofs.Common.{Some, drop, first_group, group_after, notation_of, take, ◌-◌, ◌≡◌, ◌≤◌}
use Rattle.lexical_literal.proofs.group_size.group_after.Given as goal

abbrev pub invariant-loop-index : goal.invariant-loop-index
invariant-loop-index l = record {
  within : l.index ≤ l.size;
  digits : l.group.digits ≤ l.index;
  same : group_after (notation_of l.grammar) (Some first_group) (take l.size l.text)
      ≡ group_after (notation_of l.grammar) (Some l.group) (drop l.index (take l.size l.text));
}

abbrev pub decreases-loop-index : goal.decreases-loop-index
decreases-loop-index l = l.size - l.index
