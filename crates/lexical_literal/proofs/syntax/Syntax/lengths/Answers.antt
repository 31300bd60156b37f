-- A literal is its longest front.
use Rattle.lexical_literal.proofs.Common.{Found, HasLengths, cuts_of, subst, sym, ◌∙◌, ◌≡◌}
use Rattle.lexical_literal.proofs.StoppedLemmas.{all_counted}
use Rattle.lexical_literal.proofs.syntax.Syntax.lengths.Goals as goal

pub returns-in-None : goal.returns-in-None
returns-in-None c l reads = let all = all_counted _ _ _ c.longest.ensures l reads in absurd (let clash = sym c.in-None.is ∙ all.1 in cc)

pub returns-in-Some : goal.returns-in-Some
returns-in-Some c l reads =
    let all = all_counted _ _ _ c.longest.ensures l reads in
    let same : all.0 ≡ c.in-Some.found = let is = sym all.1 ∙ c.in-Some.is in cc in
    subst (λ (found : Found). HasLengths l (cuts_of found.counts)) same all.2
