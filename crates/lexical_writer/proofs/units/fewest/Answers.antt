-- With one more digit, the float is not whole either.
use Rattle.lexical_writer.proofs.Common.{arith, raw}
use borrow.Author.Count.{below_more}
use Rattle.lexical_writer.specs.Conversion.{IsUnits}
use Rattle.lexical_writer.specs.declared.units.Units.TheVariants as found
use Rattle.lexical_writer.proofs.units.fewest.Goals as goal

pub loop-places-preserved : goal.loop-places-preserved
loop-places-preserved c =
    let literal = c.args.literal.now in
    record {
      few = omega (arith, c.loop-places-test.true);
      fewer = below_more (λ n. IsUnits (raw literal.format) literal.literal n found.Broken) c.loop-places.places c.loop-places.invariant.fewer
          c.in-Broken.ensures;
    }
