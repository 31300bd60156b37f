use Rattle.lexical_literal.proofs.Common.{Bool, Flag, SEPARATORS, adding, and_comm, ap, arith, bare, bit_not, goes, group_at, is_one_of, mask_of, not}
use Rattle.lexical_literal.proofs.Common.{notation_of, number_separator_flags, raw, refl, sym, w128, ◌&&◌, ◌∙◌, ◌≡◌}
use Rattle.lexical_literal.proofs.CauseLemmas.{flag_and, flag_not, mask_flags, masked_by, separators_mask}
use Rattle.lexical_literal.proofs.cause.Spot.separators.Goals as goal

rest : (s a : Bool) → (not (s && not a) && s) ≡ (s && a)
rest s a = grind arith

pub returns-then-is_at_gap : goal.returns-then-is_at_gap
returns-then-is_at_gap c =
    let r = c.refusing.result in let t = c.args.self.now in
    let allowed = λ (f : Flag). goes (adding f (bare (notation_of t.grammar))) t.read (group_at t) t.byte in
    let others : (f : Flag) → (raw (bit_not w128 r)).flag f ≡ not (is_one_of number_separator_flags f && not (allowed f)) =
    λ f. flag_not f r c.refusing.type_inv ∙ ap not (ap (λ n. (raw n).flag f) c.refusing.ensures
    ∙ mask_flags (λ f. (raw SEPARATORS).flag f && not (allowed f)) f ∙ ap (λ t. t && not (allowed f)) (separators_mask f)) in
    let gap = sym c.if-is_at_gap.true ∙ c.is_at_gap.ensures in
    and_comm SEPARATORS (bit_not w128 r) ∙ masked_by (bit_not w128 r) SEPARATORS (λ f. is_one_of number_separator_flags f && allowed f) refl
    (λ f. flag_and f (bit_not w128 r) SEPARATORS ∙ (λ j. others f j && separators_mask f j) ∙ rest (is_one_of number_separator_flags f) (allowed f))
    ∙ (λ j. mask_of (λ f. gap j && (is_one_of number_separator_flags f && allowed f)))
