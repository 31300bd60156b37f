use Rattle.lexical_util.proofs.EditLemmas.{applied_none, applied_more}
use Rattle.lexical_util.proofs.edits.apply_all.Goals as goal

pub loop-index-init : goal.loop-index-init
loop-index-init c = applied_none c.args.builder c.args.edits.now

pub loop-index-preserved : goal.loop-index-preserved
loop-index-preserved c = applied_more c.loop-index.invariant c.loop-index-test.true c.index-edits-index.is
    c.apply-builder.ensures.fields c.apply-builder.ensures.legal
