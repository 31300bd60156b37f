use Rattle.lexical_forms.proofs.Common.{Grammar, ap, notation_of, special_of, sym, ◌∙◌}
use Rattle.lexical_forms.proofs.specials.Specials.read.Goals as goal

pub returns : goal.returns
returns c = c.behind.ensures ∙ sym (c.split_sign-sign.ensures (notation_of c.grammar.result) c.args.self.now)
    ∙ ap (λ (g : Grammar). special_of (notation_of g) c.args.self.now c.args.text.now) c.grammar.ensures.value
