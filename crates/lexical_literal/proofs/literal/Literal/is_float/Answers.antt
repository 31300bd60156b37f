-- The point and the exponent character are there if their lengths are not 0.
use Rattle.lexical_literal.proofs.Common.{◌||◌, ap, sym, ◌∙◌, is_float, Read}
use Rattle.lexical_literal.proofs.MadeLemmas.{absent, first, present, second}
use Rattle.lexical_literal.proofs.literal.Literal.is_float.Goals as goal

pub returns-then-self-ne0-clause-value : goal.returns-then-self-ne0-clause-value
returns-then-self-ne0-clause-value c =
    let is = c.self.invariant.is_cut.lengths in
    first _ _ c.if-self-ne0.true ∙ (λ j. present _ _ is.point j || present _ _ is.exponent_character j)
    ∙ ap (λ (read : Read). is_float read.literal) c.self.view_is

pub returns-else-self-ne0-clause-value : goal.returns-else-self-ne0-clause-value
returns-else-self-ne0-clause-value c =
    let is = c.self.invariant.is_cut.lengths in
    second _ _ c.if-self-ne0.false ∙ (λ j. present _ _ is.point j || present _ _ is.exponent_character j)
    ∙ ap (λ (read : Read). is_float read.literal) c.self.view_is

pub returns-else-self-ne0-clause-exponent : goal.returns-else-self-ne0-clause-exponent
returns-else-self-ne0-clause-exponent c none =
    let made = c.self.invariant.is_cut in
    sym (ap (λ (read : Read). read.literal.exponent) c.self.view_is)
    ∙ (made.reads.literal.spelled.after_character (absent _ _ made.lengths.exponent_character none)).1
