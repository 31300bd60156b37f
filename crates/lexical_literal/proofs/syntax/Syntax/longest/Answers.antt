-- The loop reads the text, byte by byte.
use Rattle.lexical_literal.proofs.Common.{Grammar, None, Some, ap, arith, count, cuts_of, false, goes, notation_of, refl, sym, true, ◌∙◌}
use Rattle.lexical_literal.proofs.StoppedLemmas.{first_counted, longest_all, more_counted}
use Rattle.lexical_literal.proofs.syntax.Syntax.longest.Goals as goal

pub loop-role-init : goal.loop-role-init
loop-role-init c = first_counted _ c.grammar-grammar.ensures.ready c.grammar-grammar.ensures.sizes c.args.text.now

pub loop-role-preserved-then-may_end : goal.loop-role-preserved-then-may_end
loop-role-preserved-then-may_end c =
    more_counted _ c.grammar-grammar.ensures.ready c.grammar-grammar.ensures.sizes _ _ _ _ _ _ _ c.loop-role.invariant _ c.in-Some.ensures.next
    c.count_byte-more.result
    c.count_byte-more.ensures.nine
    (c.count_byte-more.ensures.counted ∙ ap (λ part. count part (Some c.in-Some.role) (cuts_of c.loop-role.counts)) c.part_of.ensures)
    (c.count_byte-more.ensures.small _ (omega arith) c.loop-role.invariant.small) true (sym c.if-may_end.true ∙ c.may_end.ensures
    ∙ ap (λ (g : Grammar). goes (notation_of g) c.in-Some.next.read c.in-Some.group None) c.grammar-grammar.ensures.value)

pub loop-role-preserved : goal.loop-role-preserved
loop-role-preserved c =
    more_counted _ c.grammar-grammar.ensures.ready c.grammar-grammar.ensures.sizes _ _ _ _ _ _ _ c.loop-role.invariant _ c.in-Some.ensures.next
    c.count_byte-more.result
    c.count_byte-more.ensures.nine
    (c.count_byte-more.ensures.counted ∙ ap (λ part. count part (Some c.in-Some.role) (cuts_of c.loop-role.counts)) c.part_of.ensures)
    (c.count_byte-more.ensures.small _ (omega arith) c.loop-role.invariant.small) false (sym c.if-may_end.false ∙ c.may_end.ensures
    ∙ ap (λ (g : Grammar). goes (notation_of g) c.in-Some.next.read c.in-Some.group None) c.grammar-grammar.ensures.value)

pub returns : goal.returns
returns c = longest_all _ _ c.loop-role.at c.loop-role.found (c.in_default.ensures.stop refl) c.loop-role.invariant.longest
