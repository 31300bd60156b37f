-- The number has all its twos in the power.
use Rattle.lexical_writer.proofs.Common.{ap, arith, count_trailing_zeros, format_of, one-le-pow, ◌%◌, ◌*◌, ◌+◌, ◌-◌, ◌/◌, ◌^◌}
use Rattle.lexical_number.proofs.ReadLemmas.{same_size, units_size}
use Rattle.lexical_number.proofs.ShortestLemmas.{low_most}
use Rattle.lexical_writer.proofs.PowerLemmas.{odd, shifted, without_twos}
use Rattle.lexical_writer.proofs.binary.odd_of.Goals as goal

pub returns-then-units-eq0-clause-size : goal.returns-then-units-eq0-clause-size
returns-then-units-eq0-clause-size c =
    let u = c.units_of-units.result in
    let v = c.units_of-units.ensures.value in
    let f = format_of c.args.double in
    same_size f c.args.size (u.size * 2 ^ u.scale) (2 ^ 1074) (0 * 2 ^ 1200) (2 ^ 1200) (one-le-pow 1074 2 (omega arith)) (one-le-pow 1200 2 (omega arith))
    (omega (arith, ap (λ n. n * 2 ^ u.scale * 2 ^ 1200) c.if-units-eq0.true))
    (units_size f u.size v.0 u.scale c.args.size (low_most c.args.double) c.requires v.1 v.2 v.3)

pub returns-clause-size : goal.returns-clause-size
returns-clause-size c =
    let u = c.units_of-units.result in
    let v = c.units_of-units.ensures.value in
    let f = format_of c.args.double in
    let n = u.size in
    let z = count_trailing_zeros 64 n % 64 in
    let power = u.scale + z + 1200 - 1074 in
    same_size f c.args.size (n * 2 ^ u.scale) (2 ^ 1074) (n / 2 ^ z * 2 ^ power) (2 ^ 1200) (one-le-pow 1074 2 (omega arith)) (one-le-pow 1200 2 (omega arith))
    (shifted n z u.scale power 1074 1200 (without_twos n z (omega (arith, c.if-units-eq0.false)) (omega arith) (omega arith)) (omega arith))
    (units_size f n v.0 u.scale c.args.size (low_most c.args.double) c.requires v.1 v.2 v.3)

pub returns-clause-odd : goal.returns-clause-odd
returns-clause-odd c _ = odd c.units_of-units.result.size (omega (arith, c.if-units-eq0.false)) (omega arith)

pub returns-clause-zero : goal.returns-clause-zero
returns-clause-zero c none =
    let one = odd c.units_of-units.result.size (omega (arith, c.if-units-eq0.false)) (omega arith) in
    absurd (omega (arith, one, none))
