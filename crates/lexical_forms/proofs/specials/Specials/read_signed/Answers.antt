-- The text is the word behind its sign.
use Rattle.lexical_forms.proofs.Common.{Option, Sign, ap, notation_of, signed, special_behind, special_of, sym, ◌∙◌}
use Rattle.lexical_forms.proofs.SpecialLemmas.{of_signed}
use Rattle.lexical_forms.proofs.specials.Specials.read_signed.Goals as goal

pub returns-in-Some : goal.returns-in-Some
returns-in-Some c = let m = notation_of c.args.syntax.now in let specials = c.args.self.now in let word = c.args.word.now in
    c.behind.ensures ∙ (λ j. special_behind (notation_of (c.grammar.ensures.value j)) specials (c.in-Some.is j) word)
    ∙ sym (of_signed m specials c.in-Some.field-0 word) ∙ ap (λ (sign : Option Sign). special_of m specials (signed sign word)) (sym c.in-Some.is)
