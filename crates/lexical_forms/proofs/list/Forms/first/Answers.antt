-- The first form is the one that is decimal.
use Rattle.lexical_forms.proofs.Common.{Form, FormList, Some, notation_of, raw, slice_get, slice_get-get_or, subst, sym, ◌∙◌, ◌≡◌}
use Rattle.lexical_forms.proofs.TokenLemmas.{some_is}
use Rattle.lexical_literal.specs.Additions.Literal.{IsSummed}
use Rattle.lexical_literal.specs.Additions.Stop.{HasBegun}
use Rattle.lexical_forms.proofs.list.Forms.first.Goals as goal

pub returns : goal.returns
returns c =
    let e = c.requires in let text = c.args.text.now in let begun = c.begin.result in
    let at = subst (λ (l : FormList). slice_get l.forms 0 ≡ Some e.form) (sym c.self.view_is) e.at in
    let same = some_is _ _ (sym (slice_get-get_or c.self.inside.forms.now 0 c.index-self-0.result c.self.invariant.0) ∙ at) in
    record {
      may = e;
      found = subst (λ (g : Form). HasBegun (notation_of g.syntax) text begun) same c.begin.ensures.found;
      summed = subst (λ (g : Form). IsSummed (raw g.syntax.word) text begun) same c.begin.ensures.summed;
    }
