-- The groups of what has been read fit.
use Rattle.lexical_literal.proofs.Common.{Grammar, None, Some, ap, first_group, group_after, notation_of, sym, take, ◌∙◌, ◌≡◌}
use Rattle.lexical_literal.proofs.stop.Stopped.group.Goals as goal

pub returns-in-None : goal.returns-in-None
returns-in-None c =
    let after = ap (λ (g : Grammar). group_after (notation_of g) (Some first_group) (take c.args.self.size c.args.text.now)) c.grammar-grammar.ensures.value in
    let apart : None ≡ Some c.requires.0 = sym c.in-None.is ∙ c.group_after.ensures ∙ after ∙ c.requires.1.grouped in cc

pub returns-in-Some : goal.returns-in-Some
returns-in-Some c = record {
  begun = c.requires.1.begun;
  grouped = ap (λ (g : Grammar). group_after (notation_of g) (Some first_group) (take c.args.self.size c.args.text.now)) (sym c.grammar-grammar.ensures.value)
      ∙ sym c.group_after.ensures ∙ c.in-Some.is;
}
