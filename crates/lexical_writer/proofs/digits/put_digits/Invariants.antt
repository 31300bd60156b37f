use Rattle.lexical_writer.proofs.Common.{List, digits_in, drop, grouped_front, places, ℕ, ◌++◌, ◌+◌, ◌-◌, ◌≡◌}
use Rattle.lexical_writer.specs.contracts.digits.put_digits.{S-type}
use Rattle.lexical_writer.proofs.digits.put_digits.Given as goal

-- What has been written, and what is to be written of the digits that are left, are the whole.
abbrev pub invariant-loop-byte : goal.invariant-loop-byte
invariant-loop-byte g l = record {
  left : l.left ≡ (l.count - places l.run.radix l.bytes) + places l.run.radix (drop l.byte-index l.bytes);
  written : (start : S-type g.row.S) → (text : List ℕ) → g.S.Sink.has start l.initial.sink text
      → (middle : List ℕ) × g.S.Sink.has start l.sink middle
      × (middle ++ grouped_front l.run.pattern l.left (digits_in l.run.radix (drop l.byte-index l.bytes))
      ≡ text ++ grouped_front l.run.pattern l.count (digits_in l.run.radix l.bytes));
}
