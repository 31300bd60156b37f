-- Where the format contradicts no condition yet, the error is that of the next one, or of one behind it.
use Rattle.lexical_literal.proofs.Common.{None, add-one, all_conditions, ap, drop, drop-cons, first_fault, get_or, option_or, raw, sym, ◌+◌, ◌∙◌, ◌∷◌, ◌≡◌}
use Rattle.lexical_literal.specs.Syntax.{fault}
use Rattle.lexical_literal.specs.declared.syntax.Condition.TheVariants as conditions
use Rattle.lexical_literal.proofs.syntax.contradiction.Goals as goal

pub loop-index-preserved : goal.loop-index-preserved
loop-index-preserved c =
    let i = c.loop-index.index in
    let r = raw c.args.grammar.word in
    let k = c.args.conditions in
    let next = get_or all_conditions i conditions.BasePrefix in
    let cons : drop i all_conditions ≡ next ∷ drop (i + 1) all_conditions =
    rw add-one (drop-cons all_conditions i conditions.BasePrefix c.loop-index-test.true) in
    let none : fault r k next ≡ None = sym c.fault-error.ensures ∙ c.in_default.is in
    c.loop-index.invariant ∙ ap (first_fault r k) cons ∙ ap (λ error. option_or error (first_fault r k (drop (i + 1) all_conditions))) none
