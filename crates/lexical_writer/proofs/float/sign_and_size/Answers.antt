-- A float is a number if the bits of its size are below those of infinity.
use Rattle.lexical_writer.proofs.Common.{Bool, Grammar, IsFinite, Option, Some, ap, arith, float_error, format_of, refl, subst, sym, ℕ, ◌%◌, ◌*◌, ◌∙◌, ◌≡◌, ◌≤◌}
use Rattle.std.specs.Prelude.{IfNone}
use lib.Ieee.{hid, ones, top}
use Rattle.lexical_writer.proofs.FloatLemmas.{finite, not_number, of_sign, special, special_error}
use Rattle.lexical_writer.specs.declared.layout.WriteError.TheVariants as errors
use Rattle.lexical_writer.proofs.float.sign_and_size.Goals as goal

pub returns-in_err-bits-clause-special : goal.returns-in_err-bits-clause-special
returns-in_err-bits-clause-special g c =
    subst (λ (r : Option (Bool × ℕ)). IfNone r ((s : Grammar) → float_error s (g.F.Float.value c.args.value) ≡ Some errors.Special)) (sym c.from_residual.ensures)
    (λ s. special_error s (g.F.Float.value c.args.value) (not_number (g.F.Float.value c.args.value) (c.in_err-bits.ensures.none.0 refl)))

pub returns-then-size-infinity-clause-finite : goal.returns-then-size-infinity-clause-finite
returns-then-size-infinity-clause-finite g c = grind (arith, finite)

pub returns-else-size-infinity-clause-special : goal.returns-else-size-infinity-clause-special
returns-else-size-infinity-clause-special g c s =
    let f = format_of g.F.Float.DOUBLE in
    let bits = c.in_ok-bits.bits in
    let sign : c.sign_bit-sign.result ≡ top f = c.sign_bit-sign.ensures ∙ ap (λ d. top (format_of d)) c.DOUBLE.ensures in
    let most = c.infinity.ensures.value ∙ ap (λ d. ones (format_of d) * hid (format_of d)) c.DOUBLE-2.ensures in
    let least : ones f * hid f ≤ bits % top f = subst (λ s. ones f * hid f ≤ bits % s) sign (omega (arith, c.if-size-infinity.false, most)) in
    special_error s (g.F.Float.value c.args.value)
    (λ negative is. special f bits least negative (subst (λ x. IsFinite x negative) (sym c.in_ok-bits.ensures.value) is))

pub returns-then-size-infinity-clause-value : goal.returns-then-size-infinity-clause-value
returns-then-size-infinity-clause-value g c = grind (arith, of_sign)
