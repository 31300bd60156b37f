-- The token of the first form, behind whose literal no form goes on.
use Rattle.lexical_forms.proofs.Common.{Form, FormList, IsPicked, IsReadByTokens, Ok, arith, get_or, inr, subst, sym}
use Rattle.lexical_forms.proofs.EndLemmas.{first_is, made_first, over_ended, picked_ended}
use Rattle.lexical_forms.proofs.TokenLemmas.{token_is}
use Rattle.lexical_forms.specs.Additions.Token.{IsEndedAt}
use Rattle.lexical_forms.proofs.list.Forms.token.Goals as goal

pub made-requires : goal.made-requires
made-requires c =
    (made_first _ _ _ c.self.view_is c.index-self-0.result c.in-Some-ended.candidate (c.ended.ensures c.in-Some-ended.candidate c.in-Some-ended.is)).ready

pub returns-else-is_stopped : goal.returns-else-is_stopped
returns-else-is_stopped c =
    let text = c.args.text.now in let candidate = c.in-Some-ended.candidate in let t = c.in-Some.tokens in let made = c.made in
    let list : FormList = record { forms = c.self.inside.forms.now; specials = c.self.inside.specials; tokens = c.self.inside.tokens } in
    let e = subst (λ (l : FormList). IsEndedAt l text candidate) (sym c.self.view_is) (c.ended.ensures candidate c.in-Some-ended.is) in
    let first = get_or list.forms 0 c.index-self-0.result in
    subst (λ (l : FormList). IsReadByTokens l l.tokens text (Ok made.result)) c.self.view_is (subst (λ o. IsReadByTokens list o text (Ok made.result)) (sym c.in-Some.is)
    (token_is list t.now text 0 first candidate (subst (λ (g : Form). IsPicked list t.now text 0 g candidate) (first_is list text candidate e c.index-self-0.result)
    (picked_ended list text candidate e t c.in-Some.is)) made.result made.ensures.form made.ensures.literal made.ensures.kind made.ensures.opened
    made.ensures.suffix made.ensures.rest (inr (
      over_ended list text candidate e t.now,
      (let stopped = c.is_stopped.ensures in let off = c.if-is_stopped.false in grind arith),
    ))))
