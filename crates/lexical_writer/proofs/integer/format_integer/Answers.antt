-- Each integer is laid out, and its value is that of the integer.
use Rattle.lexical_writer.proofs.Common.{Bool, Grammar, IfErr, IfOk-weaker, Result, Some, WriteError, ap, arith, integer_literal, laid_out, number_of_size}
use Rattle.lexical_writer.proofs.Common.{refusal, subst, true, with_sign, ℕ, ℤ, ◌<◌, ◌∙◌, ◌≡◌}
use Rattle.lexical_writer.specs.Layout.{whole, whole_refusal}
use Rattle.lexical_writer.specs.declared.integer.WrittenInteger.{WrittenInteger}
use Rattle.lexical_writer.proofs.PlainLemmas.{has_value}
use Rattle.lexical_writer.proofs.integer.format_integer.Goals as goal

-- A sign and a size are those of the integer.
amount_is : (negative : Bool) (size : ℕ) (z : ℤ) → with_sign negative size ≡ z → (negative ≡ true → 0 < size)
    → number_of_size negative size ≡ whole z
amount_is negative size z value some = grind arith

refused : (g : Grammar) (z : ℤ) → (result : Result WrittenInteger WriteError)
    → IfErr result (λ error. refusal g (whole z) ≡ Some error) → IfErr result (λ error. whole_refusal g z ≡ Some error)
refused g z result is = grind arith

pub returns-clause-parts : goal.returns-clause-parts
returns-clause-parts h c =
    let same = amount_is _ _ _ c.sign_and_size-negative.ensures.value c.sign_and_size-negative.ensures.zero in
    IfOk-weaker c.of_size.result _ _ (λ it is. is ∙ ap (laid_out c.args.syntax.now c.args.style) same) c.of_size.ensures.parts

pub returns-clause-error : goal.returns-clause-error
returns-clause-error h c =
    refused c.args.syntax.now _ c.of_size.result
    (subst (λ amount. IfErr c.of_size.result (λ error. refusal c.args.syntax.now amount ≡ Some error))
    (amount_is _ _ _ c.sign_and_size-negative.ensures.value c.sign_and_size-negative.ensures.zero) c.of_size.ensures.error)

pub returns-clause-value : goal.returns-clause-value
returns-clause-value h c =
    IfOk-weaker c.of_size.result _ _
    (λ it has. has_value c.args.syntax.now _ _ _ c.sign_and_size-negative.ensures.value c.of_size.ensures.lawful (integer_literal it) has.1)
    c.of_size.ensures.written
