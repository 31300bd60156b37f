use Rattle.std.proofs.Common.{◌≡◌, Bool, not, if◌then◌else◌, sym, ap, ◌∙◌, arith}
use Rattle.std.proofs.Math.Bool.{beq}
use Rattle.std.proofs.lemmas.List.Filters.{FiltersInPlace-more_no, FiltersInPlace-more_swap}
use Rattle.lexical_util.proofs.edits.listing.move_to_front.Goals as goal

-- If a test is equal to the wanted truth value, then this comparison is the chosen test.
passes : (changed t : Bool) → (if changed then t else not t) ≡ beq t changed
passes changed t = grind arith

pub loop-index-preserved : goal.loop-index-preserved
loop-index-preserved c =
    let test = passes c.args.changed _ ∙ ap (λ t. beq t c.args.changed) (sym c.differs_from_new.ensures) in
    elim c.if-differs_from_new-changed.branch [
      | goal.then-differs_from_new-changed w ↦ rw (w.edits-is, w.count-is) (FiltersInPlace-more_swap c.loop-index.invariant
          (omega arith) (test ∙ w.if-differs_from_new-changed.true) c.index-edits-index.is w.swap.ensures.by_index)
      | goal.else-differs_from_new-changed w ↦ rw (w.edits-is, w.count-is) (FiltersInPlace-more_no c.loop-index.invariant
          (omega arith) (test ∙ w.if-differs_from_new-changed.false) c.index-edits-index.is)
    ]
