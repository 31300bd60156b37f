-- The form is asked.
use Rattle.lexical_forms.proofs.Common.{Bool, IsAsked, subst}
use Rattle.lexical_forms.proofs.list.Forms.ask.Goals as goal

pub returns : goal.returns
returns c = λ old. c.longer.ensures _ c.tried-it.ensures
    (subst (λ (b : Bool). IsAsked c.args.tokens.now.gives_points_back c.args.text.now (c.tried-it.result.now, b) c.candidate-asked.result.0 c.candidate-asked.result.1)
    c.needs-needs.ensures (record {
      some = c.candidate-asked.ensures.some;
      none = c.candidate-asked.ensures.none;
      over = c.candidate-asked.ensures.over;
    })) old
