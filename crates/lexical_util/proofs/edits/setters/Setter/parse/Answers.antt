use Rattle.lexical_util.proofs.SettingLemmas.{trimmed_is}
use Rattle.lexical_util.proofs.edits.setters.Setter.parse.Goals as goal

pub returns : goal.returns
returns c = rw (trimmed_is c.args.value.now c.trim_ascii.result.now c.trim_ascii.ensures.value) c.parse_exact.ensures
