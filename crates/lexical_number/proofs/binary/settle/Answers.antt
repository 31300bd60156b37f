-- What is cut off decides how the kept bits are rounded, and all of it is less than half if these are more than 64.
use Rattle.std.proofs.Common.{rules}
use Rattle.lexical_number.proofs.Common.{arith, pow_mono, ◌^◌, ◌≤◌}
use Rattle.lexical_number.proofs.BinaryLemmas.{rounded, vanishes}
use Rattle.lexical_number.proofs.binary.settle.Goals as goal

pub returns-then-dropped-gt64 : goal.returns-then-dropped-gt64
returns-then-dropped-gt64 c num den D near =
    let room : 2 ^ 65 ≤ 2 ^ c.args.dropped = pow_mono c.if-dropped-gt64.true in
    vanishes _ num den _ _ near c.requires.kept D (omega arith)

pub returns : goal.returns
returns c num den D near = search (rules, pow_mono, rounded)
