-- The exponent, and its sign.
use Rattle.lexical_literal.proofs.Common.{steps_of, subst, sym, ◌+◌, List, Notation, arith, may_read, nat_tests, true, ℕ, ◌≡◌}
use Rattle.lexical_literal.specs.Additions.Scan.{behind_sign}
use Rattle.lexical_util.specs.declared.format_flags.Part.TheVariants as parts
use Rattle.lexical_literal.proofs.JoinLemmas.{exponent_at}
use Rattle.lexical_literal.proofs.scan.exponent.Goals as goal

pub suffix-requires-clause-at : goal.suffix-requires-clause-at
suffix-requires-clause-at c = let run = c.digits-run.result in exponent_at (steps_of c.args.grammar) c.args.text.now c.args.mantissa _ c.in-Some.sign
    run.size _ run.stage _ c.in-Some.ensures.stage c.at_stage-at.ensures c.requires.at c.in-Some.ensures.sign c.digits-run.ensures.run.on

pub unfinished-requires-then-not-has_digit-clause-begun : goal.unfinished-requires-then-not-has_digit-clause-begun
unfinished-requires-then-not-has_digit-clause-begun c = let run = c.digits-run.result in
    (exponent_at (steps_of c.args.grammar) c.args.text.now c.args.mantissa _ c.in-Some.sign run.size _ run.stage _ c.in-Some.ensures.stage
    c.at_stage-then-not-has_digit.ensures c.requires.at c.in-Some.ensures.sign c.digits-run.ensures.run.on).begun

exponent_free : (m : Notation) (text : List ℕ) (size sign : ℕ) → may_read m text size (behind_sign parts.Exponent sign) ≡ true
exponent_free m text size sign = grind (arith, nat_tests)

pub digits-run-requires-clause-first : goal.digits-run-requires-clause-first
digits-run-requires-clause-first c =
    let m = steps_of c.args.grammar in
    let from = c.args.mantissa.size + 1 + c.in-Some.sign in
    subst (λ stage. may_read m c.args.text.now from stage ≡ true) (sym c.in-Some.ensures.stage) (exponent_free m c.args.text.now from c.in-Some.sign)
