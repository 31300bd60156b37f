-- What is not a whole number of units is not whole.
use Rattle.lexical_writer.proofs.Common.{Literal, Record, inl, inr, is_float, raw, true, ℕ, ◌-◌, ◌^◌, ◌≡◌}
use Rattle.lexical_literal.specs.declared.kind.IntegerKind.{IntegerKind}
use Rattle.lexical_value.specs.Scaled.{IsNotScaled}
use Rattle.lexical_value.specs.declared.integer.ValueErrorKind.TheVariants as kinds
use Rattle.lexical_writer.specs.Conversion.{IsUnits}
use Rattle.lexical_writer.specs.declared.units.Units.TheVariants as found
use Rattle.lexical_writer.proofs.units.units_at.Goals as goal

broken : (kind : IntegerKind) (r : Record) (l : Literal) (n : ℕ) → is_float l ≡ true
    → IsNotScaled kind (2 ^ 128 - 1) (2 ^ 128 - 1) r.byte l n kinds.NotWhole → IsUnits r l n found.Broken
broken kind r l n float none = elim none [ inl other ↦ absurd (let same = other.0 in cc) | inr unfit ↦ rw float at unfit ]

pub returns-in-Err-NotWhole : goal.returns-in-Err-NotWhole
returns-in-Err-NotWhole c =
    let literal = c.args.literal.now in
    broken literal.kind.integers (raw literal.format) literal.literal c.args.places c.requires
    (rw c.in-Err-NotWhole.field-0-is at c.in-Err-NotWhole.ensures)
