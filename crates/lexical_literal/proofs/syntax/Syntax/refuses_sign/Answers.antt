-- Nothing is read of a text that begins with a sign that is not allowed.
use Rattle.lexical_literal.proofs.Common.{Grammar, IsReady, ap, arith, get_or, inl, nat_tests, start, step, steps_of, subst, sym, ◌∙◌}
use Rattle.lexical_literal.proofs.ScanLemmas.{minus_refused, plus_refused}
use Rattle.lexical_literal.proofs.StoppedLemmas.{first_counted, stops_at}
use Rattle.lexical_literal.proofs.syntax.Syntax.refuses_sign.Goals as goal

pub returns-then-text-eq43 : goal.returns-then-text-eq43
returns-then-text-eq43 c = λ is.
    let text = c.args.text.now in let ready = c.grammar-grammar.ensures.ready in let sizes = c.grammar-grammar.ensures.sizes in
    let same = sym c.grammar-grammar.ensures.value in
    (stops_at _ ready sizes text _ _ (first_counted _ ready sizes text).read (λ inside. inl (
    ap (λ (g : Grammar). step (steps_of g) start (get_or text 0 0)) same
    ∙ plus_refused _ (subst (λ (g : Grammar). IsReady (steps_of g)) same ready).roles _ c.if-text-eq43.true
    (let allowed = c.allows_plus.ensures in grind (arith, nat_tests))))).valid.no_longer

pub returns-then-text-eq45 : goal.returns-then-text-eq45
returns-then-text-eq45 c = λ is.
    let text = c.args.text.now in let ready = c.grammar-grammar.ensures.ready in let sizes = c.grammar-grammar.ensures.sizes in
    let same = sym c.grammar-grammar.ensures.value in
    (stops_at _ ready sizes text _ _ (first_counted _ ready sizes text).read (λ inside. inl (
    ap (λ (g : Grammar). step (steps_of g) start (get_or text 0 0)) same
    ∙ minus_refused _ (subst (λ (g : Grammar). IsReady (steps_of g)) same ready).roles _ c.if-text-eq45.true
    (let allowed = c.allows_minus.ensures in grind (arith, nat_tests))))).valid.no_longer
