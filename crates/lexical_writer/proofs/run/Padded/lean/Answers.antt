-- The first digits that are not zeros, and what is behind them, are the digits of the number.
use Rattle.lexical_writer.proofs.Common.{List, [], ap, append-nil, arith, digits_in, digits_of, length, number, number_from_digits, replicate}
use Rattle.lexical_writer.proofs.Common.{size_of, sym, ℕ, ◌++◌, ◌∙◌, ◌≡◌}
use Rattle.lexical_writer.proofs.DigitLemmas.{lean_front, no_number, zero_front, zeros_below, zeros_number}
use Rattle.lexical_writer.proofs.run.Padded.lean.Goals.{else-some, then-some}
use Rattle.lexical_writer.specs.declared.run.Source.TheVariants as sources
use Rattle.lexical_writer.proofs.run.Padded.lean.Goals as goal

pub returns : goal.returns
returns c =
    let padded = c.args.self.now in
    let radix = c.args.radix in
    let first = digits_in radix padded.digits.now in
    let zeros : List ℕ = replicate padded.after 0 in
    let lean = c.without_zeros-digits in
    let digits = c.count-some.ensures.value in
    elim c.if-some.branch [
      | then-some w ↦
          ap (λ k. digits_in radix lean.result.now ++ replicate k 0) w.result-is
          ∙ lean_front radix padded.before first zeros _ c.requires.0 lean.ensures (omega (arith, digits, w.if-some.true))
          (zeros_below radix padded.after c.requires.0)
      | else-some w ↦
          let is = ap length lean.ensures in
          let none = no_number radix (number radix padded.digits.now) c.requires.0 (omega (arith, digits, is, w.if-some.false)) in
          let zero : size_of radix (sources.Padded padded) ≡ 0 =
          zero_front radix padded.before first zeros none ∙ ap (number_from_digits radix) (sym (append-nil zeros)) ∙ zeros_number radix padded.after [] in
          ap (λ k. digits_in radix lean.result.now ++ replicate k 0) w.result-is ∙ append-nil _ ∙ lean.ensures
          ∙ ap (digits_of radix) (none ∙ sym zero)
    ]
