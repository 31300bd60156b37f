-- What has been found is found with sizes if its groups fit.
use Rattle.lexical_literal.proofs.Common.{ap, false≢true, is_grouped, not, notation_of, sym, ◌∙◌}
use Rattle.lexical_literal.proofs.StoppedLemmas.{begun_grouped, begun_with}
use Rattle.lexical_literal.proofs.scan.sized.Goals as goal
use Rattle.lexical_literal.proofs.scan.sized.Goals.{then-not-begun, else-not-begun}

pub returns-in-Some-clause-begun : goal.returns-in-Some-clause-begun
returns-in-Some-clause-begun c = begun_with (notation_of c.args.grammar) c.requires.ready c.requires.sizes c.args.text.now c.args.begun c.requires.found
    c.in-Some.group (sym c.group_after.ensures ∙ c.in-Some.is) (λ yes. elim c.if-not-begun.branch [
      | then-not-begun w ↦ absurd (false≢true (sym (ap not yes) ∙ w.if-not-begun.true))
      | else-not-begun w ↦ sym w.group_allows.ensures ∙ sym w.value-is ∙ c.if-group_allows.true
    ])

pub returns-then-is_grouped-clause-begun : goal.returns-then-is_grouped-clause-begun
returns-then-is_grouped-clause-begun c =
    let m = notation_of c.args.grammar in let found = c.requires.found in let whole = c.if-begun.true in let l = found.literal whole in
    begun_grouped m c.requires.ready c.requires.sizes c.args.text.now c.args.begun found whole
    (ap (is_grouped m) (sym (c.integer_of.ensures l.0 l.1.whole (found.lengths whole l.0 l.1))) ∙ sym c.is_grouped.ensures ∙ c.if-is_grouped.true)
