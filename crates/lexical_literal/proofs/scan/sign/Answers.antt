-- The byte is a sign that is allowed, or none is needed.
use Rattle.lexical_literal.proofs.Common.{Bool, IsTrue, Notation, Part, arith, forbids_plus, fresh, get_or, is_signed, not, refl, steps_of, subst, sym, true}
use Rattle.lexical_literal.proofs.Common.{after_mark, ap, ◌&&◌, ◌==◌, ◌||◌, ◌∙◌, ◌≡◌}
use Rattle.lexical_util.specs.declared.format_flags.Part.TheVariants as parts
use Rattle.lexical_literal.proofs.ScanLemmas.{no_sign, read_sign}
use Rattle.lexical_literal.proofs.scan.sign.Goals as goal
use Rattle.lexical_literal.proofs.scan.sign.Goals.{in-Exponent, in_default}

behind : (m : Notation) (part : Part) → is_signed m part (after_mark (fresh part)) ≡ true
behind m parts.Exponent = refl
behind m parts.Integer = refl
behind m parts.Fraction = refl

pub returns-then-plus-allows_plus-clause-sign : goal.returns-then-plus-allows_plus-clause-sign
returns-then-plus-allows_plus-clause-sign c =
    let m = steps_of c.args.grammar in
    let b = get_or c.args.text.now c.args.size 0 in
    let allowed : Bool → Bool → Bool = λ plus minus. ((b == 43) && plus) || ((b == 45) && minus) in
    record {
      within = omega (arith, c.if-size-text.true);
      on = read_sign m c.args.text.now c.requires.ready.roles c.args.part c.args.size c.if-size-text.true
          (subst (λ minus. IsTrue (allowed (not (forbids_plus m c.args.part)) minus)) c.allows_minus.ensures
          (subst (λ plus. IsTrue (allowed plus c.allows_minus.result)) c.allows_plus.ensures c.if-plus-allows_plus.true));
      signed = behind m c.args.part;
    }

pub returns-then-is_signed-clause-sign : goal.returns-then-is_signed-clause-sign
returns-then-is_signed-clause-sign c =
    let m = steps_of c.args.grammar in
    let before : c.match-part.before.0 ≡ fresh c.args.part = elim c.match-part.branch [
      | in-Exponent w ↦ grind arith
      | in_default w ↦ grind arith
    ] in
    no_sign m c.args.text.now c.args.part c.args.size c.requires.within
    (sym (ap (is_signed m c.args.part) before) ∙ sym c.is_signed.ensures ∙ c.if-is_signed.true)
