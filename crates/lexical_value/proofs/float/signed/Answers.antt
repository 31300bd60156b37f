-- The other sign is that of the rounded fraction.
use Rattle.std.proofs.Common.{rules}
use Rattle.lexical_value.proofs.Common.{format_of, neg, round}
use Rattle.core.proofs.dec2flt.Patterns.{neg-round}
use Rattle.lexical_value.proofs.float.signed.Goals as goal

pub returns-then-negative : goal.returns-then-negative
returns-then-negative g c num den is = search (rules, format_of, neg, neg-round, round)
