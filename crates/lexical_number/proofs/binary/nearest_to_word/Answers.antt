-- The word has enough bits for a significand, and at least 3 more.
use Rattle.lexical_number.proofs.Common.{ap, arith, count_leading_zeros, format_of, leading_top, lt_of_not-le, pow_mono, suc, ℕ, ◌+◌, ◌<◌, ◌^◌, ◌≡◌, ◌≤◌}
use Rattle.lexical_number.proofs.BinaryLemmas.{significand_at, cut_at}
use Rattle.lexical_number.proofs.binary.nearest_to_word.Goals as goal

-- The highest bit, and the zeros above it.
top : (word : ℕ) → 2 ^ 55 ≤ word → word < 2 ^ 64 → (j : ℕ) × (j + 1 + count_leading_zeros 64 word ≡ 64) × (2 ^ j ≤ word) × (word < 2 ^ (j + 1)) × (55 ≤ j)
top word from fits =
    let t = leading_top 64 word (omega (arith, from)) fits in
    let less : word < 2 ^ (t.0 + 1) = omega (arith, t.3, ap (λ k. 2 ^ k) {x = suc t.0} {y = t.0 + 1} (omega arith)) in
    (t.0, omega (arith, t.1), t.2, less, omega (arith, (lt_of_not-le (λ (g : t.0 + 1 ≤ 55). omega (arith, pow_mono {i = t.0 + 1} {j = 55} g)))))

pub overflow_sub-least-2 : goal.overflow_sub-least-2
overflow_sub-least-2 c =
    let t = top c.args.word c.requires.top (omega arith) in
    omega (arith, c.precision.ensures.range, t.1, t.4)

pub settle-requires-clause-dropped : goal.settle-requires-clause-dropped
settle-requires-clause-dropped c =
    let t = top c.args.word c.requires.top (omega arith) in
    omega (arith, c.dropped-dropped.ensures.least, c.precision.ensures.range, t.1, t.4)

pub settle-requires-clause-kept : goal.settle-requires-clause-kept
settle-requires-clause-kept c =
    let t = top c.args.word c.requires.top (omega arith) in
    significand_at (format_of c.args.double) _ t.0 _ _ (t.2, t.3) (omega (arith, c.dropped-dropped.ensures.least, c.precision.ensures, t.1))
    (λ K. omega (arith, c.dropped-dropped.ensures.normal K, c.precision.ensures, t.1, t.4))

pub returns : goal.returns
returns c num den D cut =
    c.settle.ensures num den D (cut_at num den c.args.up c.args.down _ _ _ (omega (arith, c.dropped-dropped.ensures.places, c.lowest.ensures)) cut)
