use Rattle.lexical_writer.proofs.Common.{digits_in, drop, ◌≡◌}
use Rattle.lexical_writer.proofs.digits.begins_decimal.Given as goal

-- What has been passed is no digit.
abbrev pub invariant-loop-byte : goal.invariant-loop-byte
invariant-loop-byte l = digits_in l.radix (drop l.byte-index l.bytes) ≡ digits_in l.radix l.bytes
