-- Each form before is passed over.
use Rattle.lexical_writer.proofs.Common.{Form, IsChosen, IsPassedOver, IsSearched, IsStopped, ap, arith, bytes_of_word, false≢true, inl}
use Rattle.lexical_writer.proofs.Common.{Some, WriteError, is_asked, length, refl, slice_get, slice_get_read, steps, subst, sym, take, ℕ, ◌+◌, ◌<◌, ◌∙◌, ◌≡◌, ◌≤◌}
use Rattle.lexical_writer.proofs.OrderLemmas.{searched_more, searched_next, searched_skip}
use Rattle.lexical_writer.proofs.choice.choose.Goals as goal
use Rattle.lexical_writer.proofs.choice.choose.Goals.{then-is_asked+in-Err-2, else-is_asked}

pub loop-index-preserved : goal.loop-index-preserved
loop-index-preserved g c =
    let forms = c.args.forms.now.forms in
    let step = c.loop-step.step in
    let index = c.loop-index.index in
    let form = c.index-list-index.result in
    let task = g.N.Writable.task c.args.number.now c.args.style in
    let P : ℕ → ℕ → Form → WriteError → Type 0 = λ n. IsPassedOver task n c.args.forms.now in
    let asked = is_asked task.own in
    let room = length c.args.buffer.now in
    let here : slice_get forms index ≡ Some form = subst (λ forms. slice_get forms index ≡ Some form) c.as_slice-list.ensures.list
    (slice_get_read _ _ index form refl c.loop-index-test.true c.index-list-index.is) in
    let now : c.is_asked.result ≡ asked step form = c.is_asked.ensures ∙ λ i. is_asked (c.own-own.ensures i) step form in
    elim c.if-is_asked.branch [
      | then-is_asked+in-Err-2 w ↦ record {
        room = ap length w.buffer-is ∙ w.in-Err.ensures.room ∙ c.loop-index.invariant.room;
        searched = subst (IsSearched (P room) asked forms step (index + 1)) (sym (w.error-is ∙ ap Some w.unwrap_or.ensures))
            (searched_more (P room) asked forms step index c.loop-index.error c.loop-index.invariant.searched form here w.in-Err.other
            (sym now ∙ w.if-is_asked.true) (subst (λ n. P n index form w.in-Err.other) c.loop-index.invariant.room
            (w.in-Err.ensures.passed (sym w.is_short.ensures ∙ w.if-is_short.false))));
      }
      | else-is_asked w ↦ record {
        room = ap length w.buffer-is ∙ c.loop-index.invariant.room;
        searched = subst (IsSearched (P room) asked forms step (index + 1)) (sym w.error-is)
            (searched_skip (P room) asked forms step index c.loop-index.error c.loop-index.invariant.searched form here
            (λ is. false≢true (sym w.if-is_asked.false ∙ now ∙ is)));
      }
    ]

pub loop-step-preserved : goal.loop-step-preserved
loop-step-preserved g c = record {
  most = omega (arith, c.loop-step-test.true);
  room = c.loop-index.invariant.room;
  searched = searched_next _ _ _ c.loop-step.step c.loop-index.index c.loop-index.error c.loop-index.invariant.searched
      (subst (λ forms. length forms ≤ c.loop-index.index) c.as_slice-list.ensures.list c.loop-index-test.false);
}

pub returns-in-Ok-clause-text : goal.returns-in-Ok-clause-text
returns-in-Ok-clause-text g c =
    let forms = c.args.forms.now.forms in
    let step = c.loop-step.step in
    let index = c.loop-index.index in
    let form = c.index-list-index.result in
    let task = g.N.Writable.task c.args.number.now c.args.style in
    let chosen = c.in-Ok.chosen in
    let here : slice_get forms index ≡ Some form = subst (λ forms. slice_get forms index ≡ Some form) c.as_slice-list.ensures.list
    (slice_get_read _ _ index form refl c.loop-index-test.true c.index-list-index.is) in
    let now : c.is_asked.result ≡ is_asked task.own step form = c.is_asked.ensures ∙ λ i. is_asked (c.own-own.ensures i) step form in (
      step,
      index,
      subst (λ n. step < n) (c.steps-end.ensures ∙ ap steps c.own-own.ensures) c.loop-step-test.true,
      c.loop-index.invariant.searched.passed,
      rw here (
        sym now ∙ c.if-is_asked.true,
        (
          sym c.in-Ok.ensures.form,
          subst (λ n. IsChosen task n c.args.forms.now index form (bytes_of_word chosen.word) (take chosen.length c.write_form.new.buffer))
              c.loop-index.invariant.room c.in-Ok.ensures.text,
        ),
      ),
    )

pub returns-in-Err-clause-error : goal.returns-in-Err-clause-error
returns-in-Err-clause-error g c =
    let forms = c.args.forms.now.forms in
    let step = c.loop-step.step in
    let index = c.loop-index.index in
    let form = c.index-list-index.result in
    let task = g.N.Writable.task c.args.number.now c.args.style in
    let here : slice_get forms index ≡ Some form = subst (λ forms. slice_get forms index ≡ Some form) c.as_slice-list.ensures.list
    (slice_get_read _ _ index form refl c.loop-index-test.true c.index-list-index.is) in
    let now : c.is_asked.result ≡ is_asked task.own step form = c.is_asked.ensures ∙ λ i. is_asked (c.own-own.ensures i) step form in
    inl (
      step,
      index,
      subst (λ n. step < n) (c.steps-end.ensures ∙ ap steps c.own-own.ensures) c.loop-step-test.true,
      c.loop-index.invariant.searched.passed,
      rw here (
        sym now ∙ c.if-is_asked.true,
        subst (λ n. IsStopped task n c.args.forms.now index form c.in-Err.other) c.loop-index.invariant.room
            (c.in-Err.ensures.stopped (sym c.is_short.ensures ∙ c.if-is_short.true)),
      ),
    )
