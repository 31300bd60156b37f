-- The text is in the buffer, and the list reads it or does not.
use Rattle.lexical_writer.proofs.Common.{Form, IfErr, IsErrAnd, IsMisread, IsPut, IsRefused, List, Literal, Ok, Option, Result, Task, WriteError, arith}
use Rattle.lexical_writer.proofs.Common.{bytes_of_word, length, take, text_by, ℕ, ◌-◌, ◌^◌, ◌≡◌, ◌≤◌}
use Rattle.std.specs.Borrow.{Bor}
use Rattle.lexical_forms.specs.FormList.{FormList}
use Rattle.lexical_writer.proofs.choice.write_by.Goals as goal

-- A text in the buffer that is misread is refused.
misread : (result : Result ℕ WriteError) (task : Task) (room : ℕ) (list : FormList) (index : ℕ) (form : Form) (word given : Option (Bor (Bor (List ℕ))))
    (l : Literal) (buffer : List ℕ) (end : ℕ) (error : WriteError) → word ≡ given → IsPut (text_by form (bytes_of_word word) l) buffer end
    → end ≤ length buffer → (end ≡ 2 ^ 64 - 1 → ⊥) → task.writes form.syntax (Ok l) → length buffer ≡ room
    → IsMisread task list index form (bytes_of_word given) (take end buffer) error → IsErrAnd result (λ other. other ≡ error)
    → IfErr result (IsRefused task room list index form (bytes_of_word word))
misread result task room list index form word given l buffer end error same is fits short has size it from = grind arith

pub returns-in_err-read_alone-in-None-clause-error : goal.returns-in_err-read_alone-in-None-clause-error
returns-in_err-read_alone-in-None-clause-error g c =
    let written = c.in_ok-end.ensures.text in
    misread _ (g.N.Writable.task c.args.number.now c.args.style) _ c.args.forms.now c.args.index c.args.form.now c.args.word _ written.0 c.put_text.new.buffer
    c.in_ok-end.end _ c.in-None.is written.4 c.if-end-buffer.false c.if-end.false written.2 c.in_ok-end.ensures.room
    c.in_err-read_alone-in-None.ensures.error c.from_residual-in_err-read_alone-in-None.ensures.1

pub returns-in_err-read_token-in-Some-clause-error : goal.returns-in_err-read_token-in-Some-clause-error
returns-in_err-read_token-in-Some-clause-error g c =
    let written = c.in_ok-end.ensures.text in
    misread _ (g.N.Writable.task c.args.number.now c.args.style) _ c.args.forms.now c.args.index c.args.form.now c.args.word _ written.0 c.put_text.new.buffer
    c.in_ok-end.end _ c.in-Some.is written.4 c.if-end-buffer.false c.if-end.false written.2 c.in_ok-end.ensures.room
    c.in_err-read_token-in-Some.ensures.error c.from_residual-in_err-read_token-in-Some.ensures.1
