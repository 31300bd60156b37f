use Rattle.std.proofs.Common.{rules}
use Rattle.lexical_flags.proofs.Common.{mod-lt, pow_pos}
use Rattle.lexical_flags.specs.Rules.{Holds}
use Rattle.lexical_flags.proofs.CaseLemmas.{own_roles_apart}
use Rattle.lexical_flags.proofs.format_flags.checks.is_valid_punctuation.Goals as goal

pub returns-then-not-is_near : goal.returns-then-not-is_near
unfolding Holds
returns-then-not-is_near c = search (rules, own_roles_apart, mod-lt, pow_pos)
