-- The invariant has the number.
use Rattle.lexical_literal.proofs.Common.{IfSome, IsShort, IsSome, Option, Read, cut, cuts_of, mantissa, raw, subst, sym, ℕ, ◌≡◌}
use Rattle.lexical_util.specs.Layout as layout
use Rattle.lexical_literal.proofs.literal.Literal.mantissa.Goals as goal

pub returns-clause-some : goal.returns-clause-some
returns-clause-some c = subst (λ (read : Read). IsShort ((raw read.format).byte layout.mantissa_radix) (mantissa (raw read.format).byte read.literal)
    → IsSome c.given.result) c.self.view_is (λ short. subst (λ (m : Option ℕ). IsSome m) (sym c.given.ensures) (c.self.invariant.word_mantissa.some short))

pub returns-clause-value : goal.returns-clause-value
returns-clause-value c = subst (λ (read : Read). IfSome c.given.result (λ m. m ≡ mantissa (raw read.format).byte read.literal)) c.self.view_is
    (subst (λ e. IfSome e (λ m. m ≡ mantissa (raw c.self.inside.word).byte (cut c.self.inside.text.now (cuts_of c.self.inside.counts))))
    (sym c.given.ensures) c.self.invariant.word_mantissa.value)
