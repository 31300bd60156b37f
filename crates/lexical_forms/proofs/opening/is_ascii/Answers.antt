-- All bytes have been looked at.
use Rattle.lexical_forms.proofs.Common.{All, All-more, arith, refl, subst, take_all, ◌<◌}
use Rattle.lexical_forms.proofs.opening.is_ascii.Goals as goal

pub loop-index-preserved : goal.loop-index-preserved
loop-index-preserved c = All-more (λ byte. byte < 128) c.args.bytes.now c.loop-index.index 0 c.loop-index-test.true c.loop-index.invariant
    (let low = c.if-bytes-index-gt127.false in grind arith)

pub returns : goal.returns
returns c =
    (λ _. subst (All (λ byte. byte < 128)) (take_all c.loop-index.index c.args.bytes.now c.loop-index-test.false) c.loop-index.invariant, λ _. refl)
