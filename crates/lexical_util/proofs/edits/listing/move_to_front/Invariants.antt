use Rattle.std.proofs.Common.{not, if◌then◌else◌}
use Rattle.std.proofs.lemmas.List.Filters.{FiltersInPlace}
use Rattle.lexical_util.specs.Private.{differs_from_new}
use Rattle.lexical_util.proofs.edits.listing.move_to_front.Given as goal

abbrev pub invariant-loop-index : goal.invariant-loop-index
invariant-loop-index l = FiltersInPlace (λ e. if l.changed then differs_from_new e else not (differs_from_new e)) l.initial.edits
    l.edits l.count l.index
