-- The shape is that of the number, by its first digit.
use Rattle.lexical_writer.proofs.Common.{IsShape, None, Some, ap, arith, if◌then◌else◌, nat_lt, not, raw, refl, subst, sym, ℕ, ◌*◌, ◌/◌, ◌^◌, ◌∙◌, ◌≡◌}
use Rattle.lexical_util.specs.Layout as layouts
use Rattle.lexical_writer.proofs.AmountLemmas.{size}
use Rattle.lexical_writer.proofs.PowerLemmas.{byte_is, shown, unshown}
use Rattle.lexical_writer.proofs.form.Powers.shape.Goals as goal

pub returns-then-not-is_shown-clause-shape : goal.returns-then-not-is_shown-clause-shape
returns-then-not-is_shown-clause-shape c =
    let it = c.args.self.now in
    let g = c.args.syntax.now in
    let made = c.over in
    let shape = made.result.1 in
    let x = it.number * it.base ^ it.power in
    let U = λ (r : ℕ). it.number * it.base ^ made.result.0 * r ^ shape.after in
    subst (λ e. IsShape g c.args.style x (it.base ^ it.zero) e shape.places (U ((raw g.word).byte layouts.mantissa_radix))) (sym made.ensures.exponent)
    (subst (λ r. IsShape g c.args.style x (it.base ^ it.zero) None shape.places (U r)) (sym c.requires.radix)
    (unshown g c.args.style it c.requires.radix c.requires.base c.requires.plain _ (U (it.base ^ it.width)) shape.places made.ensures.exact
    (byte_is (not c.is_whole.result) ∙ ap (λ w. if not w then 1 else 0) c.is_whole.ensures) made.ensures.last
    (sym c.if-not-is_shown.true ∙ c.is_shown.ensures)))

pub returns-clause-shape : goal.returns-clause-shape
returns-clause-shape c =
    let it = c.args.self.now in
    let g = c.args.syntax.now in
    let made = c.over-2 in
    let shape = made.result.1 in
    let x = it.number * it.base ^ it.power in
    let U = λ (r : ℕ). it.number * it.base ^ made.result.0 * r ^ shape.after in
    let E = it.top / it.step in
    let Z = it.zero / it.step in
    let e : c.abs_diff.result ≡ size E Z = omega (arith, c.abs_diff.ensures) in
    subst (λ e. IsShape g c.args.style x (it.base ^ it.zero) e shape.places (U ((raw g.word).byte layouts.mantissa_radix)))
    (ap (λ e. Some (nat_lt E Z, e)) (sym e) ∙ sym made.ensures.exponent)
    (subst (λ r. IsShape g c.args.style x (it.base ^ it.zero) (Some (nat_lt E Z, size E Z)) shape.places (U r)) (sym c.requires.radix)
    (shown g c.args.style it c.requires.radix c.requires.base c.requires.plain (U (it.base ^ it.width)) shape.places E Z refl refl made.ensures.exact
    made.ensures.last (sym c.if-not-is_shown.false ∙ c.is_shown.ensures)))
