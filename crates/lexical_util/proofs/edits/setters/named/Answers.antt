use Rattle.std.proofs.Common.{◌≢◌, sym}
use Rattle.lexical_util.specs.Additions.Settings.{name_of}
use Rattle.lexical_util.proofs.SettingLemmas.{every}
use Rattle.lexical_util.proofs.edits.setters.named.Goals as goal

pub returns-in_default : goal.returns-in_default
unfolding name_of
returns-in_default c setter same = absurd (every (λ s. c.args.name.now ≢ name_of s) (assumption c.in_default) setter (sym same))
