use Rattle.lexical_number.proofs.Common.{Leads, drop, length, number_after, ℕ, ◌*◌, ◌+◌, ◌-◌, ◌^◌, ◌≡◌, ◌≤◌}
use Rattle.lexical_number.proofs.leading.push_all.Given as goal

-- The digits so far lead a number, which the rest continues to the whole.
abbrev pub invariant-loop-index : goal.invariant-loop-index
invariant-loop-index l = record {
  within : l.index ≤ length l.bytes;
  small : l.leading.digits ≤ 2 ^ 90 * l.radix;
  dropped : l.leading.dropped ≤ l.initial.leading.dropped + l.index;
  value : (n : ℕ) → Leads l.radix n l.initial.leading.digits l.initial.leading.more l.initial.leading.dropped
      → (m : ℕ) × Leads l.radix m l.leading.digits l.leading.more l.leading.dropped × (number_after l.radix m (drop l.index l.bytes)
      ≡ number_after l.radix n l.bytes);
}

abbrev pub decreases-loop-index : goal.decreases-loop-index
decreases-loop-index l = length l.bytes - l.index
