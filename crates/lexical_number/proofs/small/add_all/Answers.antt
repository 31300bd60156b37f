-- One byte, a digit or not.
use Rattle.lexical_number.proofs.Common.{None, Some, ap, arith, get_or, mod-add-mod, refl, sym, ◌%◌, ◌*◌, ◌+◌, ◌^◌, ◌∙◌}
use Rattle.std.proofs.Math.Nat.{mod-mod}
use Rattle.lexical_number.proofs.DigitLemmas.{at}
use Rattle.lexical_number.proofs.SmallLemmas.{push_same}
use Rattle.lexical_number.proofs.small.add_all.Goals as goal
use Rattle.lexical_number.proofs.small.add_all.Goals.{in-Some, in_default}

pub loop-index-init : goal.loop-index-init
loop-index-init c = record { within = omega arith; sum = (c.args.before, omega (arith, c.ranges.before.fits), refl) }

pub loop-index-preserved : goal.loop-index-preserved
loop-index-preserved c =
    let l = c.loop-index in
    let m = l.invariant.sum in
    let radix = c.args.radix in
    let byte = get_or c.args.bytes.now l.index 0 in record {
      within = omega (arith, c.loop-index-test.true);
      sum = elim c.match-char_to_digit.branch [
        | in-Some w ↦
            let d = w.in-Some.digit in (
              m.0 * radix + d,
              w.sum-is ∙ mod-add-mod (l.sum * radix) (2 ^ 64) d ∙ push_same radix l.sum m.0 d (ap (λ n. n % 2 ^ 64) m.1 ∙ mod-mod m.0 (2 ^ 64)),
              sym (at radix m.0 l.index c.args.bytes.now c.loop-index-test.true (Some d) (sym c.char_to_digit.ensures.digit ∙ w.in-Some.is)) ∙ m.2,
            )
        | in_default w ↦ (
          m.0,
          w.sum-is ∙ m.1,
          sym (at radix m.0 l.index c.args.bytes.now c.loop-index-test.true None (sym c.char_to_digit.ensures.digit ∙ w.in_default.is)) ∙ m.2,
        )
      ];
    }
