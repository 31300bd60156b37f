use Rattle.lexical_number.proofs.Common.{drop, length, places, ◌+◌, ◌-◌, ◌≡◌, ◌≤◌}
use Rattle.lexical_number.proofs.small.count.Given as goal

abbrev pub invariant-loop-index : goal.invariant-loop-index
invariant-loop-index l = record {
  within : l.index ≤ length l.bytes;
  value : l.count + places l.radix (drop l.index l.bytes) ≡ places l.radix l.bytes;
  small : l.count ≤ l.index;
}

abbrev pub decreases-loop-index : goal.decreases-loop-index
decreases-loop-index l = length l.bytes - l.index
