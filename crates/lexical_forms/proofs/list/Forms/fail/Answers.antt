-- The word where the form that goes furthest stops is a literal.
use Rattle.lexical_forms.proofs.Common.{FormList, GoesTo, IsFormError, IsGreatest, NoForm, subst, sym, ℕ}
use Rattle.lexical_forms.proofs.TokenLemmas.{some_form}
use Rattle.lexical_forms.proofs.list.Forms.fail.Goals as goal

pub returns-in-Err : goal.returns-in-Err
returns-in-Err c =
    let stop = c.furthest_stop.result in
    let furthest = subst (λ (l : FormList). (i : ℕ) × IsGreatest (GoesTo c.args.text.now) l.forms i stop) c.self.view_is c.furthest_stop.ensures in (
      c.requires,
      (
        c.part_size-end.result,
        (furthest.0, stop, furthest.1, c.part_size-end.ensures.size),
        subst (λ t. IsFormError c.args.self.now.forms t c.error_at.result) c.split_at.ensures.front c.error_at.ensures,
      ),
    )

pub returns-in-Ok : goal.returns-in-Ok
returns-in-Ok c =
    let stop = c.furthest_stop.result in
    let furthest = subst (λ (l : FormList). (i : ℕ) × IsGreatest (GoesTo c.args.text.now) l.forms i stop) c.self.view_is c.furthest_stop.ensures in (
      c.requires,
      (furthest.0, stop, furthest.1, c.part_size-end.ensures.size),
      λ none. some_form c.args.self.now.forms c.split_at.result.0.now c.in-Ok.field-0.0 c.in-Ok.field-0.1 c.in-Ok.ensures.found.0
          (subst (NoForm c.args.self.now.forms) (sym c.split_at.ensures.front) none),
    )
