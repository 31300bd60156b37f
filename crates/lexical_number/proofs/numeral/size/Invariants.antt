use Rattle.lexical_number.proofs.Common.{drop, length, number, number_after, ◌-◌, ◌≡◌, ◌≤◌}
use Rattle.lexical_number.proofs.numeral.size.Given as goal

-- The digits of what is left, after those of the size so far, are the number.
abbrev pub invariant-loop-index : goal.invariant-loop-index
invariant-loop-index l = record {
  within : l.index ≤ length l.bytes;
  small : l.size ≤ l.most;
  value : number_after l.radix l.size (drop l.index l.bytes) ≡ number l.radix l.bytes;
}

abbrev pub decreases-loop-index : goal.decreases-loop-index
decreases-loop-index l = length l.bytes - l.index
