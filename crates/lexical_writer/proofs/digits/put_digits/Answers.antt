-- A digit is written with what follows it, and another byte is passed.
use Rattle.lexical_writer.proofs.Common.{ap, append_assoc, arith, character, cons_option, digits_in, drop, grouped_front, length, separated, subst, sym, ◌++◌}
use Rattle.lexical_writer.proofs.Common.{◌+◌, ◌-◌, ◌∙◌, ◌∷◌, ◌≡◌}
use Rattle.lexical_writer.proofs.DigitLemmas.{left_of}
use Rattle.lexical_writer.proofs.digits.put_digits.Goals.{in-Some, in_default}
use Rattle.lexical_writer.proofs.digits.put_digits.Goals as goal

pub loop-byte-preserved : goal.loop-byte-preserved
loop-byte-preserved g c =
    let run = c.args.run.now in
    let l = c.loop-byte in
    let rest = digits_in run.radix (drop (l.byte-index + 1) c.args.bytes.now) in
    let left = left_of run.radix l.byte-index c.args.bytes.now c.char_to_digit.result c.loop-byte-test.true c.char_to_digit.ensures.digit in
    let behind = c.args.count - length (digits_in run.radix c.args.bytes.now) in
    elim c.match-char_to_digit.branch [
      | in-Some w ↦
          let d = w.in-Some.digit in
          let digits : digits_in run.radix (drop l.byte-index c.args.bytes.now) ≡ d ∷ rest = left ∙ ap (λ digit. cons_option digit rest) w.in-Some.is in
          let here = character run.pattern.lowercase d ∷ separated run.pattern (l.left - 1) in
          record {
            left = w.left-is ∙ (let all = l.invariant.left ∙ ap (λ digits. behind + length digits) digits in omega (arith, all));
            written = λ start text has.
                let before = l.invariant.written start text has in (
                  before.0 ++ here,
                  subst (λ sink. g.S.Sink.has start sink (before.0 ++ here)) (sym w.sink-is) (w.put_digit.ensures start before.0 before.1),
                  ap (λ k. (before.0 ++ here) ++ grouped_front run.pattern k rest) w.left-is
                      ∙ append_assoc before.0 here (grouped_front run.pattern (l.left - 1) rest)
                      ∙ ap (λ digits. before.0 ++ grouped_front run.pattern l.left digits) (sym digits) ∙ before.2,
                );
          }
      | in_default w ↦
          let digits : digits_in run.radix (drop l.byte-index c.args.bytes.now) ≡ rest = left ∙ ap (λ digit. cons_option digit rest) w.in_default.is in
          record {
            left = w.left-is ∙ l.invariant.left ∙ ap (λ digits. behind + length digits) digits;
            written = λ start text has.
                let before = l.invariant.written start text has in (
                  before.0,
                  subst (λ sink. g.S.Sink.has start sink before.0) (sym w.sink-is) before.1,
                  ap (λ k. before.0 ++ grouped_front run.pattern k rest) w.left-is
                      ∙ ap (λ digits. before.0 ++ grouped_front run.pattern l.left digits) (sym digits) ∙ before.2,
                );
          }
    ]
