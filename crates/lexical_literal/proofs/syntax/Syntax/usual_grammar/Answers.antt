-- A usual syntax has the fields that are given to it.
use Rattle.lexical_literal.proofs.Common.{Grammar, HasSizes, IsReady, ap, notation_of, steps_of, subst, sym, ◌∙◌}
use Rattle.lexical_literal.specs.Additions.Fields.{AreFields, worded}
use Rattle.lexical_literal.proofs.FieldLemmas.{usual_fields}
use Rattle.lexical_literal.proofs.RoleLemmas.{has_sizes_of, ready}
use Rattle.lexical_literal.proofs.syntax.Syntax.usual_grammar.Goals as goal

pub invariant_of-result : goal.invariant_of-result
invariant_of-result c = subst AreFields (sym (usual_fields c.grammar.inside c.args.self.now c.grammar.invariant (c.grammar.view_is ∙ c.self.view_is)
    c.requires c.only.result c.only.ensures)) c.grammar.invariant

pub returns-clause-value : goal.returns-clause-value
returns-clause-value c = ap worded (usual_fields c.grammar.inside c.args.self.now c.grammar.invariant (c.grammar.view_is ∙ c.self.view_is)
    c.requires c.only.result c.only.ensures) ∙ c.grammar.view_is ∙ c.self.view_is

pub returns-clause-ready : goal.returns-clause-ready
returns-clause-ready c = subst (λ (g : Grammar). IsReady (steps_of g)) c.self.view_is
    (ready c.role_facts.ensures.disjoint c.role_facts.ensures.five c.role_facts.ensures.lawful _ c.self.invariant.0)

pub returns-clause-sizes : goal.returns-clause-sizes
returns-clause-sizes c = subst (λ (g : Grammar). HasSizes (notation_of g)) c.self.view_is (has_sizes_of _ c.self.invariant.0)
