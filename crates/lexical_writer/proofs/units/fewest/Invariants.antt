use Rattle.lexical_writer.proofs.Common.{raw, ℕ, ◌+◌, ◌-◌, ◌<◌, ◌≤◌}
use Rattle.lexical_writer.specs.Conversion.{IsUnits}
use Rattle.lexical_writer.specs.declared.units.Units.TheVariants as found
use Rattle.lexical_writer.proofs.units.fewest.Given as goal

-- With fewer digits, the float is not whole.
abbrev pub invariant-loop-places : goal.invariant-loop-places
invariant-loop-places l = record {
  few : l.places ≤ l.most + 1;
  fewer : (n : ℕ) → n < l.places → IsUnits (raw l.literal.format) l.literal.literal n found.Broken;
}

abbrev pub decreases-loop-places : goal.decreases-loop-places
decreases-loop-places l = l.most + 1 - l.places
