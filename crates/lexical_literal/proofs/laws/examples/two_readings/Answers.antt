-- In each text, one byte plays two roles.
use Rattle.lexical_literal.proofs.Common.{Literal, [], ap, refl, ◌∷◌}
use Rattle.lexical_util.specs.Unfoldable.{on_literals}
use Rattle.lexical_literal.proofs.ExampleLemmas.{two, a_literal}
use Rattle.lexical_literal.proofs.laws.examples.two_readings.Goals as goal

pub returns-clause-suffix : goal.returns-clause-suffix
unfolding on_literals
returns-clause-suffix c = two _ _ (a_literal [] [] (49 ∷ 104 ∷ []) [] [] [] []) (a_literal [] [] (49 ∷ []) [] [] [] (104 ∷ []))
    refl refl refl refl refl (λ same. let part = ap (λ (l : Literal). l.suffix) same in cc)

pub returns-clause-prefix : goal.returns-clause-prefix
unfolding on_literals
returns-clause-prefix c = two _ _ (a_literal [] [] (48 ∷ 120 ∷ 49 ∷ []) [] [] [] []) (a_literal [] (48 ∷ 120 ∷ []) (49 ∷ []) [] [] [] [])
    refl refl refl refl refl (λ same. let part = ap (λ (l : Literal). l.prefix) same in cc)

pub returns-clause-point : goal.returns-clause-point
unfolding on_literals
returns-clause-point c = two _ _ (a_literal [] [] (49 ∷ []) (46 ∷ []) [] [] []) (a_literal [] [] (49 ∷ []) [] (46 ∷ []) [] [])
    refl refl refl refl refl (λ same. let part = ap (λ (l : Literal). l.point) same in cc)

pub returns-clause-digit : goal.returns-clause-digit
unfolding on_literals
returns-clause-digit c = two _ _ (a_literal [] [] (49 ∷ 48 ∷ []) [] [] [] []) (a_literal [] [] (49 ∷ []) [] (48 ∷ []) [] [])
    refl refl refl refl refl (λ same. let part = ap (λ (l : Literal). l.integer) same in cc)

pub returns-clause-exponent : goal.returns-clause-exponent
unfolding on_literals
returns-clause-exponent c = two _ _ (a_literal [] [] (49 ∷ []) [] [] [] (104 ∷ [])) (a_literal [] [] (49 ∷ []) [] (104 ∷ []) [] [])
    refl refl refl refl refl (λ same. let part = ap (λ (l : Literal). l.suffix) same in cc)

pub returns-clause-sign : goal.returns-clause-sign
unfolding on_literals
returns-clause-sign c = two _ _ (a_literal (43 ∷ []) [] (49 ∷ []) [] [] [] []) (a_literal [] [] [] [] (43 ∷ []) (49 ∷ []) [])
    refl refl refl refl refl (λ same. let part = ap (λ (l : Literal). l.sign) same in cc)
