-- The invariant has the number.
use Rattle.lexical_literal.proofs.Common.{IfSome, Read, cut, cuts_of, exponent, raw, subst, sym, ◌≡◌}
use Rattle.lexical_literal.proofs.literal.Literal.scale.Goals as goal

pub returns-clause-value : goal.returns-clause-value
returns-clause-value c = subst (λ (read : Read). IfSome c.given.result (λ m. m ≡ exponent (raw read.format).byte read.literal)) c.self.view_is
    (subst (λ e. IfSome e (λ m. m ≡ exponent (raw c.self.inside.word).byte (cut c.self.inside.text.now (cuts_of c.self.inside.counts))))
    (sym c.given.ensures) c.self.invariant.word_exponent.value)
