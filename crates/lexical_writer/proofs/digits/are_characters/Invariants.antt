use Rattle.lexical_writer.proofs.Common.{character, digits_in, drop, false, map, ◌≡◌}
use Rattle.lexical_writer.proofs.digits.are_characters.Given as goal

-- If the bytes that are left are digits, all are.
abbrev pub invariant-loop-byte : goal.invariant-loop-byte
invariant-loop-byte l = drop l.byte-index l.bytes ≡ map (character false) (digits_in l.radix (drop l.byte-index l.bytes))
    → l.bytes ≡ map (character false) (digits_in l.radix l.bytes)
