use Rattle.std.proofs.Common.{rules}
use Rattle.lexical_util.proofs.SettingLemmas.{trimmed_is}
use Rattle.lexical_util.proofs.edits.setters.Edit.from_setting.Goals as goal

pub returns-in-Some : goal.returns-in-Some
returns-in-Some c =
    let named = c.from_name.ensures c.in-Some.setter in
    rw (trimmed_is c.args.name.now c.trim_ascii-name.result.now c.trim_ascii-name.ensures.value) (search (rules, named))

pub returns-in-None : goal.returns-in-None
returns-in-None c = rw (trimmed_is c.args.name.now c.trim_ascii-name.result.now c.trim_ascii-name.ensures.value) (search rules)
