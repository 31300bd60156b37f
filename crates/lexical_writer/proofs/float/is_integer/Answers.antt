-- The number is the float that has its bits.
use Rattle.lexical_writer.proofs.Common.{Bool, HasSize, and_parts, ap, arith, div-add-mod', eqb-true, false, format_of, from_bits, mod-eq_of_lt, not}
use Rattle.lexical_writer.proofs.Common.{one-le-pow, subst, sym, with_minus, ◌%◌, ◌*◌, ◌/◌, ◌<◌, ◌==◌, ◌^◌, ◌∙◌, ◌≡◌}
use lib.Ieee.Exact.{HasValue}
use mathlib.Core.Bool.{beq}
use Rattle.lexical_number.proofs.ReadLemmas.{same_size}
use Rattle.lexical_writer.proofs.FloatLemmas.{minus_value}
use Rattle.lexical_writer.proofs.float.is_integer.Goals as goal

same_sign : (a b : Bool) → not (beq a b) ≡ false → a ≡ b
same_sign a b is = grind arith

pub returns : goal.returns
returns g c same =
    let f = format_of g.F.Float.DOUBLE in
    let exact = c.exact_of-exact in
    let n = exact.result.number in
    let up = exact.result.up in
    let down = exact.result.down in
    let size = c.args.size in
    let tests = and_parts (size / 2 ^ up == n) (n * 2 ^ up % 2 ^ 128 == size) same in
    let whole : size / 2 ^ up ≡ n = eqb-true _ _ tests.0 in
    let parts = div-add-mod' size (2 ^ up) in
    let few : n * 2 ^ up < 2 ^ 128 = omega (arith, parts, ap (λ q. q * 2 ^ up) whole, c.ranges.size.fits) in
    let value : n * 2 ^ up ≡ size = sym (mod-eq_of_lt few) ∙ eqb-true _ _ tests.1 in
    let one : 2 ^ down ≡ 1 = ap (λ d. 2 ^ d) {x = down} {y = 0} (omega (arith, c.if-exact-gt0.false)) in
    let it = same_size f c.in-Some.bits (n * 2 ^ up) (2 ^ down) size 1 (one-le-pow down 2 (omega arith)) (omega arith)
    (omega (arith, value, ap (λ p. size * p) one))
    (subst (λ d. HasSize (format_of d) c.in-Some.bits (n * 2 ^ up) (2 ^ down)) c.DOUBLE.ensures exact.ensures.size) in
    let sign = same_sign _ _ c.if-sign-negative.false in
    subst (λ x. HasValue x c.args.negative size 1) (sym (c.in-Some.ensures.value ∙ ap (λ s. with_minus s (from_bits f c.in-Some.bits)) sign))
    (minus_value (from_bits f c.in-Some.bits) c.args.negative size 1 it.value)
