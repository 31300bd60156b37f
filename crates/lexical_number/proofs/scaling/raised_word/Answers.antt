-- The digits are all of the number, and a power of two makes a word of them.
use Rattle.std.proofs.Common.{rules}
use Rattle.lexical_number.proofs.Common.{Bool, IsCutTo, IsNearestBits, arith, count_leading_zeros, false, format_of, if◌then◌else◌}
use Rattle.lexical_number.proofs.Common.{mul-le-mul_left, pow_pos, subst, sym, ℕ, ◌%◌, ◌*◌, ◌+◌, ◌<◌, ◌^◌, ◌∙◌, ◌≤◌}
use Rattle.lexical_number.proofs.BinaryLemmas.{few, kept, lifted, shifted}
use Rattle.lexical_number.proofs.ScalingLemmas.{in_radixes}
use Rattle.lexical_number.proofs.scaling.raised_word.Goals as goal

pub raised_bits-requires-clause-leading : goal.raised_bits-requires-clause-leading
raised_bits-requires-clause-leading c = (_, c.whole-leading.ensures.leads (2 ^ c.args.radix_bits) (pow_pos c.args.radix_bits))

pub returns-then-digits-eq0 : goal.returns-then-digits-eq0
returns-then-digits-eq0 c =
    c.raised_bits.ensures c.args.digits c.args.exponent (c.whole-leading.ensures.leads (2 ^ c.args.radix_bits) (pow_pos c.args.radix_bits)) (omega arith)

-- A scale has few bits, on either side.
small : (x bits : ℕ) → x < 2 ^ 56 → bits ≤ 5 → x * bits ≤ 2 ^ 56 * 5
small x bits X B = omega (arith, mul-le-mul_left x B, X)

sides : (b : Bool) (x k : ℕ) → x ≤ k → ((if b then 0 else x) ≤ k) × ((if b then x else 0) ≤ k)
sides b x k given = search rules

power : (b : Bool) (x bits : ℕ) → x < 2 ^ 56 → bits ≤ 5 → ((if b then 0 else x * bits) ≤ 2 ^ 56 * 5) × ((if b then x * bits else 0) ≤ 2 ^ 56 * 5)
power b x bits X B = sides b (x * bits) (2 ^ 56 * 5) (small x bits X B)

pub overflow_add-down : goal.overflow_add-down
overflow_add-down c = search (rules, small, power, few)

pub nearest_to_word-requires-clause-top : goal.nearest_to_word-requires-clause-top
nearest_to_word-requires-clause-top c = omega (arith, kept c.args.digits (omega arith) (omega arith), shifted c.args.digits (omega arith) (omega arith))

pub nearest_to_word-requires-clause-scale : goal.nearest_to_word-requires-clause-scale
nearest_to_word-requires-clause-scale c = search (rules, small, power, few)

pub returns : goal.returns
returns c =
    let p = if c.args.negative then 0 else c.args.exponent * c.args.base_bits in
    let q = c.args.places * c.args.radix_bits + (if c.args.negative then c.args.exponent * c.args.base_bits else 0) in
    let zeros = count_leading_zeros 64 c.args.digits in
    in_radixes (λ num den. IsNearestBits (format_of c.args.double) num den c.nearest_to_word.result) c.args.digits c.args.radix_bits c.args.places
    c.args.base_bits c.args.exponent c.args.negative (c.nearest_to_word.ensures (c.args.digits * 2 ^ p) (2 ^ q) (pow_pos q)
    (subst (λ up. IsCutTo (c.args.digits * 2 ^ p * 2 ^ (c.scales-up.result.1 + zeros)) (c.args.digits * 2 ^ zeros % 2 ^ 64) false (2 ^ q * 2 ^ up))
    (sym (c.scales-up.ensures.up ∙ omega arith))
    (subst (λ down. IsCutTo (c.args.digits * 2 ^ p * 2 ^ (down + zeros)) (c.args.digits * 2 ^ zeros % 2 ^ 64) false (2 ^ q * 2 ^ p))
    (sym c.scales-up.ensures.down) (subst (λ word. IsCutTo (c.args.digits * 2 ^ p * 2 ^ (q + zeros)) word false (2 ^ q * 2 ^ p))
    (sym (kept c.args.digits (omega arith) (omega arith))) (lifted c.args.digits p q zeros)))))
