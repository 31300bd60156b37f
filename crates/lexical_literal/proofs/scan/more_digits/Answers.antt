-- Each digit is read behind the others, and so is a separator with the digit behind it.
use Rattle.lexical_literal.proofs.Common.{refl, Grammar, Part, ap, arith, radix_of, raw, separators_in, steps_of, sym, ℕ, ◌%◌, ◌*◌, ◌+◌, ◌^◌, ◌∙◌, true, ◌≡◌}
use Rattle.lexical_literal.proofs.SumLemmas.{more_digit, more_separated, no_run, one_more}
use Rattle.lexical_util.specs.declared.format_flags.Part.TheVariants as parts
use Rattle.lexical_literal.proofs.scan.more_digits.Goals as goal

-- No size of groups makes this flag idle.
internal : (g : Grammar) (part : Part) → (raw g.word).flag (separators_in part).internal ≡ true → (steps_of g).flag (separators_in part).internal ≡ true
internal g parts.Integer is = is
internal g parts.Fraction is = is
internal g parts.Exponent is = is

pub loop-digit-init : goal.loop-digit-init
loop-digit-init c = record {
  within = c.requires.within;
  more = omega arith;
  on = no_run (steps_of c.args.grammar) (radix_of (raw c.args.grammar.word) c.args.part) c.args.text.now c.args.part c.args.begun;
}

pub loop-digit-preserved-in-Some : goal.loop-digit-preserved-in-Some
loop-digit-preserved-in-Some c =
    let m = steps_of c.args.grammar in
    let l = c.loop-digit in
    let more = l.invariant.more in
    record {
      within = omega (arith, c.in-Some.ensures.some.0);
      more = omega (arith, more);
      on = one_more m (radix_of (raw c.args.grammar.word) c.args.part) c.args.text.now c.args.part c.args.begun l.size l.separators l.value c.in-Some.digit
          1 l.separators _ more (omega arith) (ap (λ (r : ℕ). (l.value * r % 2 ^ 64 + c.in-Some.digit) % 2 ^ 64) c.radix_of-radix.ensures) l.invariant.on
          (more_digit c.args.grammar c.args.text.now c.args.part _ _ c.requires.ready.roles c.requires.run c.requires.part c.in-Some.ensures.some);
    }

pub loop-digit-preserved : goal.loop-digit-preserved
loop-digit-preserved c =
    let m = steps_of c.args.grammar in
    let l = c.loop-digit in
    let more = l.invariant.more in
    let v = c.in-Some-value_at.digit in
    record {
      within = omega (arith, c.in-Some-value_at.ensures.some.0);
      more = omega (arith, more);
      on = one_more m (radix_of (raw c.args.grammar.word) c.args.part) c.args.text.now c.args.part c.args.begun l.size l.separators l.value v
          2 (l.separators + 1) _ more (omega arith) (ap (λ (r : ℕ). (l.value * r % 2 ^ 64 + v) % 2 ^ 64) c.radix_of-radix.ensures) l.invariant.on
          (more_separated c.args.grammar c.args.text.now c.args.part _ v c.requires.ready.roles c.requires.run c.requires.part (record {
            digit = c.in-Some-value_at.ensures.some;
            separator = sym c.is_separator.ensures ∙ c.if-not-is_separator.false;
            allowed = internal c.args.grammar c.args.part (sym (c.has_place.ensures.internal refl) ∙ c.if-not-has_place.false);
          }));
    }
