-- The suffix is read, or the byte that follows is refused.
use Rattle.lexical_literal.proofs.Common.{IsAt, IsRefused, List, Notation, Reading, Stopped, arith, counts_of, cuts_of, false≢true, steps_of, subst, suffix}
use Rattle.lexical_literal.proofs.Common.{sym, ℕ, ◌∙◌, ◌≡◌}
use Rattle.lexical_literal.proofs.JoinLemmas.{suffix_at}
use Rattle.lexical_literal.proofs.StoppedLemmas.{complete_at}
use Rattle.lexical_literal.proofs.scan.suffix.Goals as goal
use Rattle.lexical_literal.proofs.scan.suffix.Goals.{then-size-text+then-is_suffix+then-takes, else-size-text+else-not-fronts}
use Rattle.lexical_literal.proofs.scan.suffix.Goals.{else-size-text-via-then-size-text+then-is_suffix+else-takes}
use Rattle.lexical_literal.proofs.scan.suffix.Goals.{else-size-text-via-then-size-text+else-is_suffix, else-size-text-via-else-size-text}

placed : (m : Notation) (text : List ℕ) (s : Reading) (a b c : ℕ) (at next : Stopped) (n suffix : ℕ) → next ≡ at → suffix ≡ n
    → IsAt m text at (cuts_of (counts_of s a b c n)) → IsAt m text next (cuts_of (counts_of s a b c suffix))
placed m text s a b c at next n suffix same ends is = subst (λ (at : Stopped). IsAt m text at (cuts_of (counts_of s a b c suffix))) (sym same)
    (subst (λ n. IsAt m text at (cuts_of (counts_of s a b c n))) (sym ends) is)

pub refuses-refused-requires-clause-suffix : goal.refuses-refused-requires-clause-suffix
refuses-refused-requires-clause-suffix c inside is = elim c.else-size-text.branch [
  | else-size-text-via-then-size-text+then-is_suffix+else-takes w ↦ sym w.takes.ensures ∙ w.if-takes.false
  | else-size-text-via-then-size-text+else-is_suffix w ↦ absurd (false≢true (sym (sym w.is_suffix.ensures ∙ w.if-is_suffix.false) ∙ is))
  | else-size-text-via-else-size-text w ↦ absurd (omega (arith, w.if-size-text.false, inside))
]

pub returns-clause-found : goal.returns-clause-found
returns-clause-found c =
    let m = steps_of c.args.grammar in let text = c.args.text.now in
    complete_at _ c.requires.ready _ _ (elim c.if-size-text.branch [
      | then-size-text+then-is_suffix+then-takes w ↦ placed m text c.args.mantissa _ _ _ _ _ _ _ w.at-is w.suffix-is
          (suffix_at m text c.requires.ready.roles c.args.mantissa _ _ _ c.args.at w.if-size-text.true
          (sym w.is_suffix.ensures ∙ w.if-is_suffix.true)
          c.requires.going (sym w.takes.ensures ∙ w.if-takes.true) c.requires.free c.requires.at)
      | else-size-text+else-not-fronts w ↦ placed m text c.args.mantissa _ _ _ _ _ _ _ w.at-is w.suffix-is c.requires.at
    ]) c.is_complete.ensures (λ yes. elim c.if-size-text.branch [
      | then-size-text+then-is_suffix+then-takes w ↦ absurd (false≢true (sym w.refused-is ∙ yes))
      | else-size-text+else-not-fronts w ↦ subst (IsRefused m text) (sym w.at-is) (w.refuses-refused.ensures (sym w.refused-is ∙ yes))
    ])
