use Rattle.lexical_literal.proofs.Common.{Flag, adding, bare, bit, goes, group_at, if◌then◌else◌, nat_lt, not, notation_of, raw, true, ◌&&◌, ◌-◌, ◌≡◌}
use Rattle.lexical_literal.proofs.cause.Spot.refusing.Given as goal

abbrev pub invariant-loop-number : goal.invariant-loop-number
invariant-loop-number l = (f : Flag) → (raw l.mask).flag f ≡ ((raw l.flags).flag f
    && (if nat_lt (bit f) l.number then not (goes (adding f (bare (notation_of l.self.grammar))) l.self.read (group_at l.self) l.self.byte) else true))

abbrev pub decreases-loop-number : goal.decreases-loop-number
decreases-loop-number l = 45 - l.number
