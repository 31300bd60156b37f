-- What excludes that a literal is behind the opening.
use Rattle.lexical_forms.proofs.Common.{Grammar, IsExcluded, notation_of, subst}
use Rattle.lexical_forms.proofs.BehindLemmas.{inside_opening, passed_inside, passed_start}
use Rattle.lexical_forms.proofs.form.Form.begins_behind.Goals as goal

pub returns-in-Some-clause-passed : goal.returns-in-Some-clause-passed
returns-in-Some-clause-passed c =
    let part = c.split_at.result.1.now in
    passed_inside c.args.self.now c.args.text.now c.args.opened part c.requires.size c.requires.opened c.split_at.ensures.back c.in-Some.bound
    (subst (λ (g : Grammar). IsExcluded (notation_of g) part c.in-Some.bound) c.grammar.ensures.value c.in-Some.ensures)

pub returns-in-None-clause-inside : goal.returns-in-None-clause-inside
returns-in-None-clause-inside c = inside_opening c.args.self.now c.args.text.now c.args.opened c.split_at.result.1.now c.requires.size c.requires.opened
    c.split_at.ensures.back

pub returns-then-refuses_sign-clause-passed : goal.returns-then-refuses_sign-clause-passed
returns-then-refuses_sign-clause-passed c = passed_start c.args.self.now c.args.text.now c.args.opened c.split_at.result.1.now c.requires.size c.requires.opened
    c.split_at.ensures.back (c.refuses_sign.ensures c.if-refuses_sign.true)
