-- `all_writes` appends the empty list, so `append-nil` takes it away before the two lists are exchanged.
use Rattle.std.proofs.Common.{append-nil}
use Rattle.lexical_util.specs.Edits.{writes_of}
use Rattle.callers.proofs.edit.edit_both.Goals as goal

pub returns-clause-other_order : goal.returns-clause-other_order
returns-clause-other_order c =
    rw (append-nil _, c.write_facts.ensures.order _ _ _ c.requires.flags c.requires.bytes, ← append-nil (writes_of c.args.first))
    at c.edit_word.ensures.word
