-- What was read is a literal without its last byte.
use Rattle.lexical_literal.proofs.Common.{Grammar, Group, IsCountedFront, None, ap, arith, goes, notation_of, subst, sym, ◌+◌, ◌-◌, ◌∙◌, ◌≡◌}
use Rattle.lexical_literal.proofs.StoppedLemmas.{front_before, same_group}
use Rattle.lexical_literal.proofs.syntax.Syntax.all_but_last.Goals as goal

pub returns-then-covers : goal.returns-then-covers
returns-then-covers c found some =
    let m = notation_of c.args.self.now in let text = c.args.text.now in let stop = c.args.stop in
    let group = same_group m text stop c.group-group.result c.requires.group c.group-group.ensures c.requires.read in
    let last : stop.size ≡ stop.size - 1 + 1 = omega (arith, c.if-stop-eq0.false) in
    let same : record { size = stop.size - 1; counts = c.begin-begun.result.counts } ≡ found = cc in
    subst (IsCountedFront m text) same (front_before m text stop c.requires (stop.size - 1) c.front_of-shorter.result.now c.begin-begun.result.counts last
    (ap (λ (g : Group). goes m stop.read g None) (sym group) ∙ ap (λ (g : Grammar). goes (notation_of g) stop.read c.group-group.result None) (sym c.grammar.ensures.value)
    ∙ sym c.may_end.ensures ∙ c.if-may_end.false) c.front_of-shorter.ensures (c.covers.ensures.measured c.if-covers.true))
