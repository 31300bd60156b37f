-- The candidate of the first form.
use Rattle.lexical_forms.proofs.Common.{FormList, IsSomeAnd, arith, get_or, map, subst, sym, true}
use Rattle.lexical_forms.proofs.EndLemmas.{begun_first, none_opened}
use Rattle.lexical_forms.proofs.LongestLemmas.{first_at}
use Rattle.lexical_forms.proofs.TokenLemmas.{for_some}
use Rattle.lexical_forms.specs.Additions.Token.{IsAsked, IsAskedFirst}
use Rattle.lexical_forms.proofs.list.Forms.asked.Goals as goal

pub candidate_of-requires-clause-opened : goal.candidate_of-requires-clause-opened
candidate_of-requires-clause-opened c = none_opened (get_or c.self.inside.forms.now 0 c.index-self-0.result) _ (begun_first _ _ _ c.self.view_is c.index-self-0.result c.in-Some.begun (c.requires c.in-Some.begun c.in-Some.is)).0

pub candidate_of-requires-clause-least : goal.candidate_of-requires-clause-least
candidate_of-requires-clause-least c = let bare = (begun_first _ _ _ c.self.view_is c.index-self-0.result c.in-Some.begun (c.requires c.in-Some.begun c.in-Some.is)).0 in omega (arith, bare)

pub candidate_of-requires-clause-begun : goal.candidate_of-requires-clause-begun
candidate_of-requires-clause-begun c = (begun_first _ _ _ c.self.view_is c.index-self-0.result c.in-Some.begun (c.requires c.in-Some.begun c.in-Some.is)).1

pub candidate_of-requires-clause-summed : goal.candidate_of-requires-clause-summed
candidate_of-requires-clause-summed c = (begun_first _ _ _ c.self.view_is c.index-self-0.result c.in-Some.begun (c.requires c.in-Some.begun c.in-Some.is)).2

pub returns : goal.returns
returns c =
    let list : FormList = record { forms = c.self.inside.forms.now; specials = c.self.inside.specials; tokens = c.self.inside.tokens } in let t = c.args.tokens.now in let text = c.args.text.now in
    let asked = c.candidate_of in
    for_some (IsAskedFirst c.args.self.now t text) asked.result (subst (λ (l : FormList). IsAskedFirst l t text asked.result) c.self.view_is
    (subst (λ o. IsSomeAnd o (λ it. IsAsked t.gives_points_back text it asked.result.0 asked.result.1))
    (sym (first_at list.forms (map (λ form. (form, true)) t.forms.now) 0 c.index-self-0.result c.self.invariant.0))
    (record { some = asked.ensures.some; none = asked.ensures.none; over = asked.ensures.over })))
