-- How far the form goes behind its opening.
use Rattle.lexical_forms.proofs.Common.{Bool, ap, arith, drop, false, if◌then◌else◌, nat_lt, nat_tests, notation_of, reach, subst, sym, ℕ, ◌+◌}
use Rattle.lexical_forms.proofs.Common.{◌-◌, ◌∙◌, ◌≡◌, ◌≤◌}
use Rattle.lexical_forms.proofs.StrangerLemmas.{reach_most}
use Rattle.lexical_forms.proofs.form.Form.reach.Goals as goal

past : (size opened opening : ℕ) → opened ≤ size → opened ≡ opening → nat_lt size opening ≡ false
past size opened opening low is = grind (arith, nat_tests)

pub overflow_add-result : goal.overflow_add-result
overflow_add-result c =
    let few = subst (λ k. k ≤ c.args.size - c.size-opened.result + 1) (sym c.reach.ensures)
    (reach_most (notation_of c.grammar.result) c.split_at.result.1.now (c.args.size - c.size-opened.result)) in
    let behind = c.if-size-opened.false in let within = c.requires in grind (arith, few, behind, within)

pub returns : goal.returns
returns c =
    let form = c.args.self.now in
    let text = c.args.text.now in
    let size = c.args.size in
    let rest = c.split_at.ensures.back ∙ ap (λ k. drop k text) c.size-opened.ensures in
    (λ i. c.size-opened.ensures i + c.reach.ensures i)
    ∙ (λ i. form.opening.size + reach (notation_of (c.grammar.ensures.value i)) (rest i) (size - c.size-opened.ensures i))
    ∙ ap (λ (t : Bool). if t then size else form.opening.size + reach (notation_of form.syntax) (drop form.opening.size text) (size - form.opening.size))
    (sym (past size _ _ c.if-size-opened.false c.size-opened.ensures))
