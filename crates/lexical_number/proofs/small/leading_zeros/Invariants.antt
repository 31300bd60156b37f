use Rattle.lexical_number.proofs.Common.{digits_in, drop, leading_zeros, length, places, ◌+◌, ◌-◌, ◌≡◌, ◌≤◌}
use Rattle.lexical_number.proofs.small.leading_zeros.Given as goal

-- What has been passed are zeros.
abbrev pub invariant-loop-index : goal.invariant-loop-index
invariant-loop-index l = record {
  within : l.index ≤ length l.bytes;
  small : l.zeros ≤ l.index;
  zeros : l.zeros + leading_zeros (digits_in l.radix (drop l.index l.bytes)) ≡ leading_zeros (digits_in l.radix l.bytes);
  digits : l.zeros + places l.radix (drop l.index l.bytes) ≡ places l.radix l.bytes;
}

abbrev pub decreases-loop-index : goal.decreases-loop-index
decreases-loop-index l = length l.bytes - l.index
