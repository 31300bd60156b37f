-- A large exponent makes 0 or infinity, and another one a scale.
use Rattle.lexical_number.proofs.Common.{IsCutTo, IsNearestBits, ap, arith, format_of, if◌then◌else◌, mul-le-mul_left, nearest_of_zero, pow_pos, subst, sym}
use Rattle.lexical_number.proofs.Common.{◌*◌, ◌+◌, ◌^◌, ◌∙◌, ◌≡◌, ◌≤◌}
use Rattle.lexical_number.proofs.BinaryLemmas.{raised}
use Rattle.lexical_number.proofs.LeadingLemmas.{digits_le, few}
use Rattle.lexical_number.proofs.ScalingLemmas.{bound, explodes, in_radixes, pow_of, vanishes}
use Rattle.lexical_number.proofs.scaling.raised_bits.Goals as goal

pub returns-then-leading-eq0 : goal.returns-then-leading-eq0
returns-then-leading-eq0 c n e l h =
    in_radixes (λ num den. IsNearestBits (format_of c.args.double) num den 0) n c.args.radix_bits c.args.places c.args.base_bits e c.args.negative
    (nearest_of_zero (format_of c.args.double) _ _ (pow_pos _)
    (ap (λ x. x * 2 ^ (if c.args.negative then 0 else e * c.args.base_bits)) (few l (omega arith) ∙ c.if-leading-eq0.true) ∙ omega arith))

pub returns-then-negative : goal.returns-then-negative
returns-then-negative c n e l h =
    let far : e * 1 ≤ e * c.args.base_bits = mul-le-mul_left e c.requires.base.0 in
    let small : c.args.leading.dropped * c.args.radix_bits ≤ c.args.leading.dropped * 5 = mul-le-mul_left _ c.requires.radix.1 in
    in_radixes (λ num den. IsNearestBits (format_of c.args.double) num den 0) n c.args.radix_bits c.args.places c.args.base_bits e c.args.negative
    (vanishes (format_of c.args.double) n _ _ _ (bound c.args.radix_bits _ c.requires.radix.1 l)
    (ap (λ b. if b then 0 else e * c.args.base_bits) c.if-negative.true) (omega (arith, ap (λ b. if b then e * c.args.base_bits else 0) c.if-negative.true)))

pub returns-else-negative : goal.returns-else-negative
returns-else-negative c n e l h =
    let far : e * 1 ≤ e * c.args.base_bits = mul-le-mul_left e c.requires.base.0 in
    let small : c.args.places * c.args.radix_bits ≤ c.args.places * 5 = mul-le-mul_left _ c.requires.radix.1 in
    in_radixes (λ num den. IsNearestBits (format_of c.args.double) num den c.infinity.result) n c.args.radix_bits c.args.places c.args.base_bits e
    c.args.negative (subst (IsNearestBits _ _ _) (sym c.infinity.ensures.value) (explodes (format_of c.args.double) n _ _ (omega (arith, digits_le l))
    (omega (arith, ap (λ b. if b then e * c.args.base_bits else 0) c.if-negative.false, ap (λ b. if b then 0 else e * c.args.base_bits) c.if-negative.false))))

pub returns : goal.returns
returns c n e l h =
    let same : e ≡ c.args.exponent = omega arith in
    in_radixes (λ num den. IsNearestBits (format_of c.args.double) num den c.nearest_bits.result) n c.args.radix_bits c.args.places c.args.base_bits e
    c.args.negative (subst
    (λ d. IsNearestBits (format_of c.args.double) (n * 2 ^ (if c.args.negative then 0 else e * c.args.base_bits)) (2 ^ d) c.nearest_bits.result)
    (c.scales-up.ensures.down ∙ ap (λ x. c.args.places * c.args.radix_bits + (if c.args.negative then x * c.args.base_bits else 0)) (sym same))
    (c.nearest_bits.ensures _ _ (pow_pos _) (raised (c.args.leading.dropped * c.args.radix_bits) (if c.args.negative then 0 else e * c.args.base_bits) _ _
    (ap (λ x. c.args.leading.dropped * c.args.radix_bits + (if c.args.negative then 0 else x * c.args.base_bits)) same ∙ sym c.scales-up.ensures.up)
    (subst (IsCutTo n c.args.leading.digits c.args.leading.more) (pow_of 2 c.args.radix_bits c.args.leading.dropped) l.cut))))
