-- Without an opening, the form stops where its syntax does.
use Rattle.lexical_forms.proofs.Common.{arith, nat_tests, ◌≡◌}
use Rattle.lexical_forms.proofs.BehindLemmas.{refused_start, syntax_within}
use Rattle.lexical_forms.proofs.form.Form.beginning.Goals as goal

pub returns-then-is_empty : goal.returns-then-is_empty
returns-then-is_empty c =
    let size = c.is_empty.ensures in let empty = c.if-is_empty.true in
    let none : c.args.self.now.opening.size ≡ 0 = grind (arith, nat_tests) in
    refused_start c.args.self.now c.args.text.now none c.requires c.beginning.result
    (c.beginning.ensures (syntax_within c.args.self.now c.args.text.now none c.requires))
