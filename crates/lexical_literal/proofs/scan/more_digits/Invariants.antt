use Rattle.lexical_literal.proofs.Common.{IsRunOn, length, radix_of, raw, steps_of, up_to, ◌+◌, ◌-◌, ◌≤◌}
use Rattle.lexical_literal.proofs.scan.more_digits.Given as goal

abbrev pub invariant-loop-digit : goal.invariant-loop-digit
invariant-loop-digit l = record {
  within : l.size ≤ length l.text;
  more : l.begun.size + l.separators ≤ l.size;
  on : IsRunOn (steps_of l.grammar) (radix_of (raw l.grammar.word) l.part) l.text l.part l.begun (up_to l.begun l.size l.separators l.value);
}

abbrev pub decreases-loop-digit : goal.decreases-loop-digit
decreases-loop-digit l = length l.text - l.size
