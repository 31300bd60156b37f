use Rattle.lexical_writer.proofs.Common.{List, grouped_front, replicate, ℕ, ◌++◌, ◌-◌, ◌≡◌, ◌≤◌}
use Rattle.lexical_writer.specs.contracts.digits.put_zeros.{S-type}
use Rattle.lexical_writer.proofs.digits.put_zeros.Given as goal

-- What has been written, and what is to be written of the zeros that are left, are the whole.
abbrev pub invariant-loop-left : goal.invariant-loop-left
invariant-loop-left g l = record {
  within : (l.end ≤ l.left) × (l.left ≤ l.count);
  written : (start : S-type g.row.S) → (text : List ℕ) → g.S.Sink.has start l.initial.sink text
      → (middle : List ℕ) × g.S.Sink.has start l.sink middle
      × (middle ++ grouped_front l.run.pattern l.left (replicate (l.left - l.end) 0)
      ≡ text ++ grouped_front l.run.pattern l.count (replicate l.zeros 0));
}

abbrev pub decreases-loop-left : goal.decreases-loop-left
decreases-loop-left g l = l.left - l.end
