use Rattle.std.specs.Prelude.{length}
use Rattle.lexical_util.proofs.reasons.note.+is_blamed.Given as goal

abbrev pub decreases-is_blamed : goal.decreases-is_blamed
decreases-is_blamed l = length l.reasons.now
