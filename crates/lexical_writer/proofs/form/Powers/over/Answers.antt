-- Zeros come behind the digits, and the last one is not a zero, unless it is wished.
use Rattle.lexical_writer.proofs.Common.{ap, arith, cases_lt, div-eq_of_lt, eq-zero-or-pos, inl, inr, mod-eq_of_lt, mod-lt, mul-le-mul_left, nat_tests}
use Rattle.lexical_writer.proofs.Common.{pow-zero, subst, sym, ◌%◌, ◌*◌, ◌+◌, ◌-◌, ◌/◌, ◌<◌, ◌^◌, ◌∙◌, ◌≡◌, ◌≤◌}
use Rattle.std.proofs.lemmas.Grind.{common_steps}
use Rattle.std.specs.Int.{div_ceil}
use Rattle.lexical_writer.proofs.PowerLemmas.{enough, moved_exact, some_left}
use Rattle.lexical_writer.proofs.form.Powers.over.Goals as goal

needed : (c : goal.After-max-places) → let it = c.args.self.now in let n = c.max-places.result in
    (c.args.low ≤ it.power + it.width * n) × (c.args.least < n → it.power + it.width * n < c.args.low + it.width)
needed c =
    let it = c.args.self.now in
    enough it.power it.width c.args.low c.args.least c.div_ceil.result c.max-places.result it.bases.1
    (c.div_ceil.ensures ∙ ap (λ a. div_ceil a it.width) (omega (arith, c.saturating_sub.ensures))) c.max-places.ensures

pub returns-clause-moved : goal.returns-clause-moved
returns-clause-moved c = mod-lt _ c.args.self.now.bases.1

pub returns-clause-exact : goal.returns-clause-exact
returns-clause-exact c = grind (arith, common_steps, nat_tests, moved_exact, needed)

pub returns-clause-last : goal.returns-clause-last
returns-clause-last c =
    let it = c.args.self.now in
    let n = c.max-places.result in
    let up = it.power + it.width * n - c.args.low in
    elim (cases_lt c.args.least n) [
      | inl less ↦
          let few : up < it.width = omega (arith, (needed c).1 less, (needed c).0) in
          let rest : 0 < it.number % it.base = elim (eq-zero-or-pos it.number) [
            | inl z ↦ absurd (omega (
              arith,
              (it.none z).0,
              c.requires.2 z,
              (needed c).1 less,
              mul-le-mul_left it.width (let one : 1 ≤ n = omega (arith, less) in one),
            ))
            | inr some ↦ it.last some
          ] in
          let value : it.number * it.base ^ (up % it.width) * (it.base ^ it.width) ^ (up / it.width) ≡ it.number * it.base ^ up =
          (λ i. it.number * it.base ^ mod-eq_of_lt few i * (it.base ^ it.width) ^ div-eq_of_lt few i)
          ∙ ap (λ q. it.number * it.base ^ up * q) (pow-zero (it.base ^ it.width)) ∙ omega arith in
          inr (omega (arith, less), subst (λ m. 0 < m % it.base ^ it.width) (sym value) (some_left it.base it.number up it.width it.bases.0 rest few))
      | inr more ↦ inl (omega (arith, more, c.max-places.ensures))
    ]
