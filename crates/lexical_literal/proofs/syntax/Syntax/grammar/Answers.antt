-- A syntax has what reading needs.
use Rattle.lexical_literal.proofs.Common.{Grammar, HasSizes, IsReady, notation_of, steps_of, subst}
use Rattle.lexical_literal.specs.Syntax.{IsSyntax}
use Rattle.lexical_literal.proofs.RoleLemmas.{has_sizes_of, ready}
use Rattle.lexical_literal.proofs.syntax.Syntax.grammar.Goals as goal

pub returns-clause-ready : goal.returns-clause-ready
returns-clause-ready c = subst (λ (g : Grammar). IsReady (steps_of g)) c.self.view_is
    (ready c.role_facts.ensures.disjoint c.role_facts.ensures.five c.role_facts.ensures.lawful _ c.self.invariant.0)

pub returns-clause-sizes : goal.returns-clause-sizes
returns-clause-sizes c = subst (λ (g : Grammar). HasSizes (notation_of g)) c.self.view_is (has_sizes_of _ c.self.invariant.0)

pub returns-clause-syntax : goal.returns-clause-syntax
returns-clause-syntax c = subst IsSyntax c.self.view_is c.self.invariant.0
