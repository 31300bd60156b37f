-- Each word before is passed.
use Rattle.lexical_writer.proofs.Common.{IsRefused, None, Some, arith, length, refl, slice_index_or, subst, sym, ◌+◌, ◌∙◌}
use Rattle.lexical_writer.proofs.OrderLemmas.{no_word, passed_more, ways_count, word_way}
use Rattle.lexical_writer.proofs.choice.write_form.Goals as goal

pub loop-word-init : goal.loop-word-init
loop-word-init g c = record {
  room = c.in-Err.ensures.room;
  passed = passed_more (g.N.Writable.task c.args.number.now c.args.style) (length c.args.buffer.now) c.args.forms.now c.args.index c.args.form.now 0 None
      c.in-Err.error refl c.in-Err.ensures.error (sym c.is_short.ensures ∙ c.if-is_short.false) (λ at word less there. absurd (omega (arith, less)));
}

pub returns-in-Ok-write_by-clause-text : goal.returns-in-Ok-write_by-clause-text
returns-in-Ok-write_by-clause-text g c =
    let way = word_way _ _ c.args.form.now _ _ c.own.ensures c.words_in-words.ensures c.loop-word-test.true in
    ((c.loop-word.word-index + 1, c.loop-word.invariant.passed, rw way refl), c.in-Ok-write_by.ensures.text)

pub returns-in-Err-write_by-clause-stopped : goal.returns-in-Err-write_by-clause-stopped
returns-in-Err-write_by-clause-stopped g c short =
    let way = word_way _ _ c.args.form.now _ _ c.own.ensures c.words_in-words.ensures c.loop-word-test.true in
    let refused = subst (λ n. IsRefused (g.N.Writable.task c.args.number.now c.args.style) n c.args.forms.now c.args.index c.args.form.now
    (Some (slice_index_or c.words_in-words.result.now c.loop-word.word-index no_word).now) c.in-Err-write_by.other)
    c.loop-word.invariant.room c.in-Err-write_by.ensures.error in
    (short, (c.loop-word.word-index + 1, c.loop-word.invariant.passed, rw way refused))

pub loop-word-preserved : goal.loop-word-preserved
loop-word-preserved g c =
    let task = g.N.Writable.task c.args.number.now c.args.style in
    let way = word_way _ _ c.args.form.now _ _ c.own.ensures c.words_in-words.ensures c.loop-word-test.true in
    let refused = subst (λ n. IsRefused task n c.args.forms.now c.args.index c.args.form.now
    (Some (slice_index_or c.words_in-words.result.now c.loop-word.word-index no_word).now) c.in-Err-write_by.other)
    c.loop-word.invariant.room c.in-Err-write_by.ensures.error in
    record {
      room = c.in-Err-write_by.ensures.room ∙ c.loop-word.invariant.room;
      passed = passed_more task (length c.args.buffer.now) c.args.forms.now c.args.index c.args.form.now (c.loop-word.word-index + 1) _
          c.in-Err-write_by.other way refused (sym c.if-is_short-2.ensures) c.loop-word.invariant.passed;
    }

pub returns-clause-passed : goal.returns-clause-passed
returns-clause-passed g c fits =
    let count = ways_count _ _ c.args.form.now _ c.own.ensures c.words_in-words.ensures in (
      fits,
      λ at way less there. c.loop-word.invariant.passed at way (omega (arith, less, count, c.loop-word-test.false)) there,
      c.in-Err.ensures.error,
    )
