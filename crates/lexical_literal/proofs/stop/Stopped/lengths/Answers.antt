-- What has been read is a literal if it ends.
use Rattle.lexical_literal.proofs.Common.{Grammar, Group, None, ap, goes, notation_of, sym, ◌∙◌}
use Rattle.lexical_literal.proofs.StoppedLemmas.{none_whole, same_group, whole_measured}
use Rattle.lexical_literal.proofs.stop.Stopped.lengths.Goals as goal
use Rattle.lexical_literal.proofs.stop.Stopped.lengths.Goals.{else-self-text-via-then-self-text+else-may_end, else-self-text-via-else-self-text}

pub returns-then-may_end-clause-some : goal.returns-then-may_end-clause-some
returns-then-may_end-clause-some c =
    let m = notation_of c.args.syntax.now in
    let same = same_group m c.args.text.now c.args.self c.group-group.result c.requires.group c.group-group.ensures c.requires.read in
    whole_measured m c.args.text.now c.args.self c.requires c.lengths.result c.if-self-text.true
    (ap (λ (g : Group). goes m c.args.self.read g None) (sym same)
    ∙ ap (λ (g : Grammar). goes (notation_of g) c.args.self.read c.group-group.result None) (sym c.grammar.ensures.value)
    ∙ sym c.may_end.ensures ∙ c.if-may_end.true) c.lengths.ensures

pub returns-else-self-text-clause-none : goal.returns-else-self-text-clause-none
returns-else-self-text-clause-none c _ =
    let m = notation_of c.args.syntax.now in
    let same = same_group m c.args.text.now c.args.self c.group-group.result c.requires.group c.group-group.ensures c.requires.read in
    none_whole m c.args.text.now c.args.self c.requires (λ all. elim c.else-self-text.branch [
      | else-self-text-via-then-self-text+else-may_end w ↦ ap (λ (g : Group). goes m c.args.self.read g None) (sym same)
          ∙ ap (λ (g : Grammar). goes (notation_of g) c.args.self.read c.group-group.result None) (sym w.grammar.ensures.value)
          ∙ sym w.may_end.ensures ∙ w.if-may_end.false
      | else-self-text-via-else-self-text w ↦ absurd (w.if-self-text.false all)
    ])
