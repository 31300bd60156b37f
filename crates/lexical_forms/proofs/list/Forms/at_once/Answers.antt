-- No form goes beyond the beginning.
use Rattle.lexical_forms.proofs.Common.{ArePassed, FormList, IsPassed, IsRefusedAt, arith, get_or, length, refl, subst, sym, ◌≡◌}
use Rattle.lexical_forms.proofs.FormLemmas.{at_index, leads_start}
use Rattle.lexical_forms.proofs.list.Forms.at_once.Goals as goal

pub returns-in-Some : goal.returns-in-Some
returns-in-Some c =
    let forms = c.self.inside.forms.now in let text = c.args.text.now in let d = c.index-self-0.result in
    rw (← c.self.view_is) (leads_start forms text c.in-Some.stop
    (at_index (IsRefusedAt text c.in-Some.stop) forms forms d 0 refl c.self.invariant.0 c.in-Some.ensures)
    (subst (λ (l : FormList). ArePassed l.forms text (length l.forms) 1) (sym c.self.view_is) c.requires.passed))

pub beginning-requires : goal.beginning-requires
beginning-requires c =
    let forms = c.self.inside.forms.now in let text = c.args.text.now in let d = c.index-self-0.result in
    let first = subst (λ (l : FormList). ArePassed l.forms text (length l.forms) 1) (sym c.self.view_is) c.requires.passed 0 d c.self.invariant.0 in
    subst (IsPassed (get_or forms 0 d) text) (let none : first.0 ≡ 0 = omega (arith, first.1) in none) first.2
