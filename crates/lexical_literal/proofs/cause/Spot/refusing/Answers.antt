-- One flag is asked after the other.
use Rattle.lexical_literal.proofs.Common.{Bool, ap, arith, bit, bit_and, false, if◌then◌else◌, nat_lt, nat_tests, not, one_shl, part, raw, sym, true, ℕ, ◌&&◌}
use Rattle.lexical_literal.proofs.Common.{◌+◌, ◌==◌, ◌∙◌, ◌≡◌}
use Rattle.lexical_literal.proofs.CauseLemmas.{bit_below, flag_and, flag_not, is_unset, masked, one_flag}
use Rattle.lexical_literal.proofs.cause.Spot.refusing.Goals as goal
use Rattle.lexical_literal.proofs.cause.Spot.refusing.Goals.{then-mask-number-ne0, else-mask-number-ne0}

asked : (x l p out : Bool) (i k : ℕ) → x ≡ (l && (if nat_lt i k then p else true)) → (i ≡ k → (x && not out) ≡ (x && p))
    → (x && not (out && (i == k))) ≡ (l && (if nat_lt i (k + 1) then p else true))
asked x l p out i k old at = grind (arith, nat_tests)

gone : (x a b : Bool) → x ≡ false → (x && a) ≡ (x && b)
gone x a b none = grind arith

pub loop-number-preserved : goal.loop-number-preserved
loop-number-preserved c f =
    let k = c.loop-number.number in
    let n = c.loop-number.mask in
    let shift = one_shl k 128 (omega arith) in
    let is = c.flag_if.ensures ∙ ap (λ n. if c.if-mask-number-ne0.is_out then n else 0) shift in
    flag_and f n _ ∙ ap (λ t. (raw n).flag f && t) (flag_not f c.flag_if.result c.flag_if.type_inv
    ∙ ap not (ap (λ n. (raw n).flag f) is ∙ one_flag c.if-mask-number-ne0.is_out k f))
    ∙ asked _ _ _ c.if-mask-number-ne0.is_out (bit f) k (c.loop-number.invariant f) (λ same. elim c.if-mask-number-ne0.branch [
      | then-mask-number-ne0 w ↦ ap (λ t. (raw n).flag f && not t) (w.is_out-is ∙ w.is_permitted-is_out.ensures f same)
      | else-mask-number-ne0 w ↦ gone _ _ _ (ap (λ k. part n k 1 == 1) same
          ∙ ap (λ v. v == 1) (is_unset n k (ap (bit_and n) (sym shift) ∙ w.if-mask-number-ne0.false)))
    ])

pub returns : goal.returns
returns c = grind (arith, masked, bit_below, nat_tests)
