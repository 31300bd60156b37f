-- The parts are written one after the other.
use Rattle.lexical_writer.proofs.Common.{List, ap, append_assoc, arith, at_least, digits_in, grouped, length, length-append, length-replicate}
use Rattle.lexical_writer.proofs.Common.{replicate, replicate-append-replicate, subst, sym, values_of, ℕ, ◌++◌, ◌+◌, ◌-◌, ◌∙◌, ◌≡◌}
use Rattle.lexical_writer.proofs.DigitLemmas.{padded_text}
use Rattle.lexical_writer.specs.declared.run.Source.TheVariants as sources
use Rattle.lexical_writer.proofs.digits.put_padded.Goals as goal

pub returns : goal.returns
returns g c start text has =
    let run = c.args.run.now in
    let padded = c.args.padded.now in
    let rest : List ℕ = digits_in run.radix padded.digits.now ++ replicate padded.after 0 in
    let values = values_of run.radix (sources.Padded padded) in
    let zeros : List ℕ = replicate (c.saturating_sub-missing.result + padded.before) 0 in
    let missing : c.saturating_sub-missing.result ≡ run.least - length values =
    c.saturating_sub-missing.ensures ∙ ap (λ k. run.least - k) c.count-count.ensures.count in
    let digits : zeros ++ rest ≡ at_least run.least values =
    ap (λ zeros. zeros ++ rest) (sym (replicate-append-replicate c.saturating_sub-missing.result padded.before 0))
    ∙ append_assoc (replicate c.saturating_sub-missing.result 0) (replicate padded.before 0) rest ∙ ap (λ k. replicate k 0 ++ values) missing in
    let first = c.put_zeros-left.ensures.text start text has in
    let second = c.put_digits-left.ensures.text start _ first in
    let third = c.put_zeros.ensures.text start _ second in
    let front = length-replicate {A = ℕ} (c.saturating_sub-missing.result + padded.before) 0 in
    let before = length-replicate {A = ℕ} padded.before 0 in
    let whole = length-append zeros rest in
    let part = length-append {A = ℕ} (replicate padded.before 0) rest in
    let count = c.count-count.ensures.count in
    subst (λ it. g.S.Sink.has start c.put_zeros.new.sink it)
    (padded_text run.pattern text zeros (digits_in run.radix padded.digits.now) (replicate padded.after 0)
    (c.saturating_sub-missing.result + c.count-count.result) c.put_zeros-left.result c.put_digits-left.result
    (omega (arith, whole, part, front, before, count)) (let left = c.put_zeros-left.ensures.left in omega (arith, left, front))
    c.put_digits-left.ensures.left ∙ ap (λ it. text ++ grouped run.pattern it) digits) third
