use Rattle.lexical_literal.proofs.Common.{ap, goes, group_at, notation_of, ◌∙◌}
use Rattle.lexical_literal.proofs.CauseLemmas.{as_bare}
use Rattle.lexical_literal.proofs.cause.Spot.goes_on_bare.Goals as goal

pub returns : goal.returns
returns c = c.allows.ensures ∙ ap (λ n. goes n c.args.self.now.read (group_at c.args.self.now) c.args.self.now.byte)
    (as_bare (notation_of c.args.self.now.grammar) c.bare.result c.bare.ensures)
