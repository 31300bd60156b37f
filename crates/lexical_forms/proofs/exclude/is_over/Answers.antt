-- No literal goes on behind a byte that plays no role, or behind the end.
use Rattle.lexical_forms.proofs.Common.{sym, ◌∙◌}
use Rattle.lexical_forms.proofs.LeadingLemmas.{over_byte}
use Rattle.lexical_forms.proofs.exclude.is_over.Goals as goal

pub returns-in-Some : goal.returns-in-Some
returns-in-Some c = λ is. over_byte _ c.args.text.now c.args.size c.in-Some.byte (sym c.byte_at.ensures ∙ c.in-Some.is) (c.has_no_role.ensures is)
