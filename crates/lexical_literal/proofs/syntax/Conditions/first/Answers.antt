-- Where none of the conditions before a place is one of them, the first is that at the place, or one behind it.
use Rattle.lexical_literal.proofs.Common.{Some, add-one, all_conditions, ap, drop, drop-cons, false, find, get_or, has, if◌then◌else◌, sym, ◌+◌, ◌∙◌, ◌∷◌, ◌≡◌}
use Rattle.lexical_literal.specs.declared.syntax.Condition.TheVariants as conditions
use Rattle.lexical_literal.proofs.syntax.Conditions.first.Goals as goal

pub loop-index-preserved : goal.loop-index-preserved
loop-index-preserved c =
    let i = c.loop-index.index in
    let next = get_or all_conditions i conditions.BasePrefix in
    let rest = drop (i + 1) all_conditions in
    let cons : drop i all_conditions ≡ next ∷ rest = rw add-one (drop-cons all_conditions i conditions.BasePrefix c.loop-index-test.true) in
    let none : has c.args.self next ≡ false = sym c.has.ensures ∙ c.if-has.false in
    c.loop-index.invariant ∙ ap (find (has c.args.self)) cons ∙ ap (λ here. if here then Some next else find (has c.args.self) rest) none
