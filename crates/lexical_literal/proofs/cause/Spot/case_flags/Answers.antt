use Rattle.lexical_literal.proofs.Common.{Some, ap, bare, case_set, goes, group_at, mask_of, notation_of, other_case, sym, ◌&&◌, ◌∙◌}
use Rattle.lexical_literal.proofs.CauseLemmas.{no_mask}
use Rattle.lexical_literal.proofs.cause.Spot.case_flags.Goals as goal

pub returns-then-goes_on_bare : goal.returns-then-goes_on_bare
returns-then-goes_on_bare c =
    let m = notation_of c.args.self.now.grammar in
    let other = c.other_case-other.ensures in
    let allowed = sym c.if-goes_on_bare.true ∙ c.goes_on_bare.ensures
    ∙ ap (λ byte. goes (bare m) c.args.self.now.read (group_at c.args.self.now) (Some byte)) other in
    c.case_mask.ensures ∙ (λ j. mask_of (λ f. allowed j && case_set f m (other j)))

pub returns-else-goes_on_bare : goal.returns-else-goes_on_bare
returns-else-goes_on_bare c =
    let m = notation_of c.args.self.now.grammar in
    let allowed = sym c.if-goes_on_bare.false ∙ c.goes_on_bare.ensures ∙ ap (λ byte. goes (bare m) c.args.self.now.read (group_at c.args.self.now) (Some byte))
    c.other_case-other.ensures in
    sym no_mask ∙ (λ j. mask_of (λ f. allowed j && case_set f m (other_case c.args.byte)))
