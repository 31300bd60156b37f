use Rattle.lexical_writer.proofs.Common.{ArePassed, length, ◌+◌, ◌≡◌}
use Rattle.lexical_writer.proofs.choice.write_form.Given as goal

-- The number is not written in a way before.
abbrev pub invariant-loop-word : goal.invariant-loop-word
invariant-loop-word g l = record {
  room : length l.buffer ≡ length l.fn.buffer;
  passed : ArePassed (g.N.Writable.task l.number l.fn.style) (length l.fn.buffer) l.forms l.index l.form (l.word-index + 1);
}
