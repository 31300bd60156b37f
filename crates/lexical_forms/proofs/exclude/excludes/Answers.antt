-- What excludes that the text is a literal.
use Rattle.lexical_forms.proofs.Common.{AreFalse, Bool, IsExcluded, ap, false, get_or, has, inl, inr, length, notation_of, refl, subst, sym, true}
use Rattle.lexical_forms.proofs.Common.{◌+◌, ◌<◌, ◌∙◌, ◌≡◌}
use Rattle.lexical_literal.specs.declared.syntax.Condition.TheVariants as conditions
use Rattle.lexical_forms.proofs.StrangerLemmas.{letter_out, silent_out, stranger_out, zero_out}
use Rattle.lexical_forms.proofs.exclude.excludes.Goals as goal
use Rattle.lexical_forms.proofs.exclude.excludes.Goals.{then-has, else-has, then-has-2, else-has-2}

pub returns-then-is_silent : goal.returns-then-is_silent
returns-then-is_silent c =
    let m = notation_of c.args.grammar in let text = c.args.text.now in let size = c.sign_size-sign.ensures.size in
    elim c.if-has-2.branch [
      | then-has-2 w ↦ subst (IsExcluded m text) (sym size) (zero_out m text (record {
        required = elim c.if-has.branch [
          | then-has v ↦ inl (ap (λ k. has k conditions.BasePrefix) (sym c.conditions.ensures) ∙ sym c.has.ensures ∙ v.if-has.true)
          | else-has v ↦ inr (ap (λ k. has k conditions.LeadingZero) (sym v.conditions-else-has.ensures) ∙ sym v.has-else-has.ensures
              ∙ sym v.value-is ∙ w.if-has-2.true)
        ];
        other = subst (λ sign. get_or text sign 0 ≡ 48 → ⊥) size c.if-text-sign-ne48.true;
      }))
      | else-has-2 w ↦ silent_out m text c.sign_size-sign.result c.if-sign-text.true (w.is_silent.ensures (sym w.value-is ∙ c.if-is_silent.true))
    ]

pub returns-then-is_excluded_second : goal.returns-then-is_excluded_second
returns-then-is_excluded_second c = second ((notation_of c.args.grammar).condition conditions.BasePrefix) refl where
  second : (needs : Bool) → (notation_of c.args.grammar).condition conditions.BasePrefix ≡ needs
      → IsExcluded (notation_of c.args.grammar) c.args.text.now (c.sign_size-sign.result + 1)
  second true is =
      let m = notation_of c.args.grammar in let text = c.args.text.now in let size = c.sign_size-sign.ensures.size in
      subst (λ sign. IsExcluded m text (sign + 1)) (sym size)
      (letter_out m text is (subst (λ sign. sign + 1 < length text) size c.if-sign-text-2.true)
      (subst (λ sign. AreFalse m.prefix (get_or text (sign + 1) 0)) size (c.is_excluded_second.ensures.letter c.if-is_excluded_second.true is)))
  second false is = silent_out (notation_of c.args.grammar) c.args.text.now (c.sign_size-sign.result + 1) c.if-sign-text-2.true
      (c.is_excluded_second.ensures.silent c.if-is_excluded_second.true is)

pub returns-then-is_stranger : goal.returns-then-is_stranger
returns-then-is_stranger c = stranger_out (notation_of c.args.grammar) c.args.text.now c.args.reach
    (subst (λ sign. sign + 1 < c.args.reach) c.sign_size-sign.ensures.size c.if-sign-reach.true)
    (c.if-reach-text.true, c.is_stranger.ensures c.if-is_stranger.true)
