-- The conditions do not contradict the format.
use Rattle.lexical_literal.proofs.Common.{Grammar, None, contradiction, raw, subst, sym, ◌∙◌, ◌≡◌}
use Rattle.lexical_literal.specs.Syntax.{IsSyntax}
use Rattle.lexical_literal.proofs.syntax.Syntax.with_conditions.Goals as goal

pub syntax-requires : goal.syntax-requires
syntax-requires c =
    let view = c.grammar-2.view_is in
    let is = subst IsSyntax (sym view) c.self.invariant.0 in record {
      lawful = is.lawful;
      normal = is.normal;
      fit = is.fit;
      conditions = subst (λ (g : Grammar). contradiction (raw g.word) c.args.conditions ≡ None)
          (c.grammar.ensures.value ∙ sym c.self.view_is ∙ sym view) (sym c.contradiction.ensures ∙ c.in-None.is);
    }
