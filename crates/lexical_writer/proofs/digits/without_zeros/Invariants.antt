use Rattle.lexical_writer.proofs.Common.{drop, number, ◌≡◌}
use Rattle.lexical_writer.proofs.digits.without_zeros.Given as goal

-- What has been passed are zeros.
abbrev pub invariant-loop-index : goal.invariant-loop-index
invariant-loop-index l = number l.radix (drop l.index l.bytes) ≡ number l.radix l.bytes
