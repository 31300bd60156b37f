use Rattle.std.proofs.Common.{◌≡◌, ◌<◌, ◌+◌, ◌/◌, ◌%◌, ◌++◌, ◌∷◌, [], length, ap, sym, ◌∙◌, append_assoc, length-append, arith}
use Rattle.std.specs.Fmt.{decimal}
use Rattle.std.proofs.lemmas.Fmt.{decimal_digit, decimal_step}
use Rattle.lexical_base.proofs.short_text.ShortText.+put_decimal.Goals.{then-has_front, else-has_front}
use Rattle.lexical_base.proofs.short_text.ShortText.+put_decimal.Goals as goal

pub returns : goal.returns
returns t c fits =
    let n = c.args.n in
    let text = c.args.self.now in
    elim c.if-has_front.branch [
      | then-has_front w ↦
          let step = decimal_step n w.if-has_front.true c.ranges.n.fits in
          let longer : length (decimal n) ≡ length (decimal (n / 10)) + 1 = ap length step ∙ length-append _ _ in
          let front = w.self-is ∙ w.put_decimal.ensures (omega (arith, fits, longer)) in
          let below : length c.if-has_front.self < 256 = omega (arith, fits, longer, ap length front ∙ length-append text (decimal (n / 10))) in
          c.put_byte.ensures.fits (omega arith) below ∙ ap (λ front. front ++ (48 + n % 10) ∷ []) front
          ∙ append_assoc text (decimal (n / 10)) ((48 + n % 10) ∷ []) ∙ ap (λ end. text ++ end) (sym step)
      | else-has_front w ↦
          let same : n % 10 ≡ n = omega (arith, w.if-has_front.false) in
          let digit : decimal n ≡ (48 + n % 10) ∷ [] = rw same (decimal_digit n w.if-has_front.false) in
          let below : length c.if-has_front.self < 256 = omega (arith, fits, ap length digit, ap length w.self-is) in
          c.put_byte.ensures.fits (omega arith) below ∙ ap (λ front. front ++ (48 + n % 10) ∷ []) w.self-is ∙ ap (λ end. text ++ end) (sym digit)
    ]
