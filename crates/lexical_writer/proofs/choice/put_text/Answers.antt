-- The parts of the text are one behind another.
use Rattle.lexical_writer.proofs.Common.{Grammar, IsPut, Ok, Reads, notation_of, [], ap, arith, bytes_of_word, length, length-take, min, subst, sym, text_of}
use Rattle.lexical_writer.proofs.Common.{unwrap_or, ◌++◌, ◌-◌, ◌<◌, ◌^◌, ◌∙◌, ◌≡◌}
use Rattle.lexical_forms.specs.Opening.{spelling}
use Rattle.lexical_writer.proofs.BufferLemmas.{put_none}
use Rattle.lexical_writer.proofs.choice.put_text.Goals.{in-None, in-Some}
use Rattle.lexical_writer.proofs.choice.put_text.Goals as goal

pub returns-clause-text : goal.returns-clause-text
returns-clause-text g c =
    let first = c.put_at-start.ensures.text [] (put_none c.args.buffer.now) in
    let start = c.put_at-start.result in
    let size = length-take c.opening-opening.result.size c.opening-opening.result.bytes in
    let opening : c.as_bytes.result.now ≡ spelling c.args.form.now.opening = c.as_bytes.ensures ∙ (λ i. spelling (c.opening-opening.ensures i)) in
    let small : start < 2 ^ 64 - 1 = subst (λ n. n < 2 ^ 64 - 1) (sym first.counted) (subst (λ l. min (length l) (2 ^ 64 - 1) < 2 ^ 64 - 1)
    (sym c.as_bytes.ensures) (omega (arith, size, c.opening-opening.result.within))) in
    let all = c.in_ok-end.ensures.text c.as_bytes.result.now small first in
    let l = all.0 in
    let word : c.match-word.word.now ≡ unwrap_or (bytes_of_word c.args.word) [] = elim c.match-word.branch [
      | in-Some w ↦ (λ i. (w.word-is i).now) ∙ sym (ap (λ word. unwrap_or (bytes_of_word word) []) w.in-Some.is)
      | in-None w ↦ (λ i. (w.word-is i).now) ∙ sym (ap (λ word. unwrap_or (bytes_of_word word) []) w.in-None.is)
    ] in (
      l,
      subst (λ (g : Grammar). Reads (notation_of g) l (text_of l)) c.syntax.ensures all.1,
      subst (λ s. (g.N.Writable.task c.args.number.now c.args.style).writes s (Ok l)) c.syntax.ensures all.2,
      all.3,
      subst (λ text. IsPut text c.put_at.new.buffer c.put_at.result) (λ i. (opening i ++ text_of l) ++ word i) (c.put_at.ensures.text _ all.4),
    )
