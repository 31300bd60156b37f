-- The order and the equality of outcomes, for `==` and `cmp` of `Error`.
use Rattle.std.specs.Prelude.{Bool}
use Rattle.std.specs.declared.cmp.Ordering.{Ordering}
use Rattle.std.specs.Ordering.{nat_cmp, on, then_cmp, eq_by_cmp}
use Rattle.lexical_base.specs.declared.error.Error.{Error}
use Rattle.lexical_base.specs.Outcomes.{rank_of, held_index}

-- `compare_outcomes a b` is the order of the outcomes `a` and `b`: by rank, then by the index that they hold.
abbrev pub compare_outcomes : Error → Error → Ordering
compare_outcomes = then_cmp (on rank_of nat_cmp) (on held_index nat_cmp)

-- `same_outcome a b` is true if the outcomes `a` and `b` are equal in the order of `compare_outcomes`.
abbrev pub same_outcome : Error → Error → Bool
same_outcome = eq_by_cmp compare_outcomes
