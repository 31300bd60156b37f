use Rattle.lexical_literal.proofs.Common.{all_conditions, contradiction, drop, first_fault, length, raw, ◌-◌, ◌≡◌}
use Rattle.lexical_literal.proofs.syntax.contradiction.Given as goal

abbrev pub invariant-loop-index : goal.invariant-loop-index
invariant-loop-index l =
    contradiction (raw l.grammar.word) l.conditions ≡ first_fault (raw l.grammar.word) l.conditions (drop l.index all_conditions)

abbrev pub decreases-loop-index : goal.decreases-loop-index
decreases-loop-index l = length all_conditions - l.index
