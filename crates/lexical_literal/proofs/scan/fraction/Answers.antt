-- The fraction, and what follows it.
use Rattle.lexical_literal.proofs.Common.{refl, Bool, List, Notation, after_point, arith, may_read, nat_tests, raw, steps_of, subst, sym, true, ℕ, ◌+◌, ◌-◌}
use Rattle.lexical_literal.proofs.Common.{◌≡◌}
use Rattle.lexical_literal.proofs.JoinLemmas.{fraction_at}
use Rattle.lexical_literal.proofs.MantissaLemmas.{fraction_sum}
use Rattle.lexical_literal.proofs.scan.fraction.Goals as goal

pub behind_mantissa-requires-clause-at : goal.behind_mantissa-requires-clause-at
behind_mantissa-requires-clause-at c = let run = c.digits-run.result in
    fraction_at (steps_of c.args.grammar) c.args.text.now (record c.args.integer { point = 1; places = run.sum.digits - c.args.integer.sum.digits }) _
    run.size _ _ run.stage _ c.requires.none.1 c.after_point-stage.ensures refl c.requires.at c.digits-run.ensures.run.on

pub behind_mantissa-requires-clause-mantissa : goal.behind_mantissa-requires-clause-mantissa
behind_mantissa-requires-clause-mantissa c = fraction_sum (steps_of c.args.grammar) (raw c.args.grammar.word) c.args.text.now
    c.after_point-stage.result c.args.integer c.digits-run.result c.requires.none.0 c.requires.none.1 c.requires.mantissa c.digits-run.ensures.run

pub unfinished-requires-clause-begun : goal.unfinished-requires-clause-begun
unfinished-requires-clause-begun c = let run = c.digits-run.result in
    (fraction_at (steps_of c.args.grammar) c.args.text.now (record c.args.integer { point = 1 }) _ run.size _ _ run.stage _
    c.requires.none.1 c.after_point-stage.ensures c.at_stage.ensures c.requires.at c.digits-run.ensures.run.on).begun

fraction_free : (m : Notation) (text : List ℕ) (size : ℕ) (digit : Bool) → may_read m text size (after_point digit) ≡ true
fraction_free m text size digit = grind (arith, nat_tests)

pub digits-run-requires-clause-first : goal.digits-run-requires-clause-first
digits-run-requires-clause-first c =
    let m = steps_of c.args.grammar in
    let from = c.args.integer.size + 1 in
    subst (λ stage. may_read m c.args.text.now from stage ≡ true) (sym c.after_point-stage.ensures) (fraction_free m c.args.text.now from _)
