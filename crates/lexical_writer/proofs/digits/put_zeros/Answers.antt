-- One more zero is written, with what follows it.
use Rattle.lexical_writer.proofs.Common.{List, ap, append_assoc, arith, character, grouped_front, replicate, separated, suc, sym, ℕ, ◌++◌, ◌-◌, ◌∙◌, ◌∷◌, ◌≡◌}
use Rattle.lexical_writer.proofs.digits.put_zeros.Goals as goal

pub loop-left-preserved : goal.loop-left-preserved
loop-left-preserved g c =
    let run = c.args.run.now in
    let l = c.loop-left in
    let end = c.args.count - c.args.zeros in
    let rest : List ℕ = replicate (l.left - 1 - end) 0 in
    let here = character run.pattern.lowercase 0 ∷ separated run.pattern (l.left - 1) in
    let zeros : replicate {A = ℕ} (l.left - end) 0 ≡ 0 ∷ rest =
    ap (λ k. replicate {A = ℕ} k 0) {x = l.left - end} {y = suc (l.left - 1 - end)} (omega (arith, c.loop-left-test.true)) in
    record {
      within = (omega (arith, c.loop-left-test.true), let most = l.invariant.within.1 in omega (arith, most));
      written = λ start text has.
          let before = l.invariant.written start text has in (
            before.0 ++ here,
            c.put_digit.ensures start before.0 before.1,
            append_assoc before.0 here (grouped_front run.pattern (l.left - 1) rest)
                ∙ ap (λ digits. before.0 ++ grouped_front run.pattern l.left digits) (sym zeros) ∙ before.2,
          );
    }
