-- The lower bits are cut off.
use Rattle.lexical_number.proofs.Common.{ap, arith, pow-add, pow_pos, shr-shr, ◌*◌, ◌+◌, ◌-◌, ◌/◌, ◌^◌, ◌∙◌, ◌≡◌}
use Rattle.core.specs.Prelude.{bit_and}
use lib.Bits.{and_mask}
use Rattle.core.proofs.num.Products.{one_shl}
use Rattle.lexical_number.proofs.binary.cut.Goals as goal

pub returns : goal.returns
returns c =
    let d = c.args.dropped in
    let e : d - 1 + 1 ≡ d = omega arith in
    let half = one_shl (d - 1) 64 (omega arith) in
    let twice : 2 ^ (d - 1) * 2 ≡ 2 ^ d = omega (arith, pow-add 2 (d - 1) 1, ap (λ k. 2 ^ k) e) in
    record {
      above = shr-shr c.args.word (d - 1) 1 ∙ ap (λ k. c.args.word / 2 ^ k) e;
      below = ap (bit_and c.args.word) (omega (arith, half, twice, pow_pos (d - 1))) ∙ and_mask c.args.word d;
      twice = omega (arith, half, twice);
    }
