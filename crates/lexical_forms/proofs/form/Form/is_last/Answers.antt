-- A byte that is refused, or plays no role.
use Rattle.lexical_forms.proofs.Common.{Grammar, IsWithin, notation_of, subst}
use Rattle.lexical_forms.proofs.form.Form.is_last.Goals as goal

pub returns-else-begun : goal.returns-else-begun
returns-else-begun c on = subst (λ (g : Grammar). IsWithin (notation_of g) c.args.inside.now c.args.begun.at.size) c.grammar.ensures.value (c.is_over.ensures on)
