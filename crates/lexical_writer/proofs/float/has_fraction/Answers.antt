-- An odd number over a power of two is not whole.
use Rattle.lexical_writer.proofs.Common.{ap, arith, div-add-mod', eq-zero-or-pos, format_of, from_bits, inl, inr, nat_lt, nat_tests, not, one-le-pow, pow-suc}
use Rattle.lexical_writer.proofs.Common.{pow-zero, suc, sym, ℕ, ◌%◌, ◌*◌, ◌-◌, ◌/◌, ◌<◌, ◌==◌, ◌^◌, ◌∙◌, ◌≡◌}
use Rattle.lexical_number.proofs.ReadLemmas.{whole_is}
use Rattle.lexical_writer.proofs.float.has_fraction.Goals as goal

broken : (n up down : ℕ) → (0 < down → (n % 2 ≡ 1) × (up ≡ 0)) → nat_lt 0 down ≡ not (n * 2 ^ up % 2 ^ down == 0)
broken n up down odd = elim (eq-zero-or-pos down) [
  | inl z ↦ grind (arith, nat_tests)
  | inr more ↦
      let it = odd more in
      let half : 2 ^ down ≡ 2 ^ (down - 1) * 2 = ap (λ d. 2 ^ d) {x = down} {y = suc (down - 1)} (omega (arith, more)) ∙ pow-suc 2 (down - 1) in
      let number : n * 2 ^ up ≡ n = ap (λ i. n * 2 ^ i) it.1 ∙ ap (λ p. n * p) (pow-zero 2) ∙ omega arith in
      let parts = div-add-mod' (n * 2 ^ up) (2 ^ down) in
      grind (arith, nat_tests, ap (λ p. n * 2 ^ up / 2 ^ down * p) half)
]

pub returns : goal.returns
returns c =
    let exact = c.exact_of in
    let it = exact.result in
    broken it.number it.up it.down exact.ensures.odd
    ∙ sym (ap not (whole_is (from_bits (format_of c.args.double) c.args.size) _ (it.number * 2 ^ it.up) (2 ^ it.down) (one-le-pow it.down 2 (omega arith))
    exact.ensures.size.value))
