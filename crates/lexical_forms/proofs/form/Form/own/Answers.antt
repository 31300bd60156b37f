-- The front, or the front without its point.
use Rattle.lexical_forms.proofs.Common.{IsOwn, sym, ◌∙◌}
use Rattle.lexical_forms.proofs.TokenLemmas.{cut_none, cut_short, for_some, front_some, is_none, kept, none_is}
use Rattle.lexical_forms.proofs.form.Form.own.Goals as goal

pub returns-then-gives_back-clause-some : goal.returns-then-gives_back-clause-some
returns-then-gives_back-clause-some c f some = cut_short c.args.back c.args.self.now c.args.text.now c.args.found c.requires
    (sym c.if-gives_back.ensures) c.split_at.result.0.now c.split_at.ensures.front c.front_past.result
    (front_some c.args.self.now c.split_at.result.0.now c.front_past.result c.front_past.ensures.some) f (sym c.whole.ensures ∙ some)

pub returns-then-gives_back-clause-none : goal.returns-then-gives_back-clause-none
returns-then-gives_back-clause-none c none = cut_none c.args.back c.args.self.now c.args.text.now c.args.found c.requires
    (sym c.if-gives_back.ensures) c.split_at.result.0.now c.split_at.ensures.front c.front_past.result
    (front_some c.args.self.now c.split_at.result.0.now c.front_past.result c.front_past.ensures.some)
    (λ none. c.front_past.ensures.none (is_none _ none)) (sym c.whole.ensures ∙ none_is _ none)

pub returns-else-gives_back-clause-some : goal.returns-else-gives_back-clause-some
returns-else-gives_back-clause-some c f some = for_some
    (IsOwn c.args.back c.args.self.now c.args.text.now c.args.found.size) c.args.found
    (kept c.args.back c.args.self.now c.args.text.now c.args.found c.requires (sym c.if-gives_back.ensures)) f some
