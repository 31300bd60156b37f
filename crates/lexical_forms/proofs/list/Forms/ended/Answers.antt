-- No form goes on behind what has been read of the first one.
use Rattle.lexical_forms.proofs.Common.{arith}
use Rattle.lexical_forms.proofs.EndLemmas.{ended_is}
use Rattle.lexical_forms.proofs.TokenLemmas.{for_some}
use Rattle.lexical_forms.specs.Additions.Token.{IsEndedAt}
use Rattle.lexical_forms.proofs.list.Forms.ended.Goals as goal

pub returns-then-ends_at : goal.returns-then-ends_at
returns-then-ends_at c =
    for_some (IsEndedAt c.args.self.now c.args.text.now) _ (ended_is c.args.self.now c.args.text.now c.args.begun c.requires c.if-complete.true
    (let ends = c.ends_at.ensures in let on = c.if-ends_at.true in grind arith))
