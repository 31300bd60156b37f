use Rattle.lexical_writer.proofs.Common.{character, digits_of, drop, false, length, map, ◌++◌, ◌≡◌, ◌≤◌}
use Rattle.lexical_writer.proofs.digits.characters.Given as goal

-- The digits that are left come before those that have been written.
abbrev pub invariant-loop-left : goal.invariant-loop-left
invariant-loop-left l = record {
  within : l.start ≤ length l.initial.buffer;
  room : length (digits_of l.radix l.left) ≤ l.start;
  text : map (character false) (digits_of l.radix l.left) ++ drop l.start l.buffer ≡ map (character false) (digits_of l.radix l.number);
}

abbrev pub decreases-loop-left : goal.decreases-loop-left
decreases-loop-left l = l.left
