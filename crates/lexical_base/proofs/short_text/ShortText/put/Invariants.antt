use Rattle.std.proofs.Common.{length, take, ◌-◌, ◌≡◌, ◌≤◌, ◌+◌, ◌++◌}
use Rattle.lexical_base.proofs.short_text.ShortText.put.Given as goal

abbrev pub invariant-loop-index : goal.invariant-loop-index
invariant-loop-index l = (take (l.initial.self-inside.length + l.index) l.self-inside.bytes
    ≡ take l.initial.self-inside.length l.initial.self-inside.bytes ++ take l.index l.words) × (l.index ≤ length l.words)

abbrev pub decreases-loop-index : goal.decreases-loop-index
decreases-loop-index l = length l.words - l.index
