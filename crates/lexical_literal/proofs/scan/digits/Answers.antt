-- The first digit, and those behind it.
use Rattle.lexical_literal.proofs.Common.{length, nat_tests, ◌<◌, Bool, Grammar, HasRoles, IsDigitAt, IsReadOn, IsRunOn, List, Part, Reading, Stage, ap, arith}
use Rattle.lexical_literal.proofs.Common.{at_stage, Notation, awaits_integer, digits_of, digits_piece, false, get_or, has_digit, if◌then◌else◌, is_free}
use Rattle.lexical_literal.proofs.Common.{is_signed, may_follow, may_read, part_of, radix_of, raw, refl, steps_of, subst, sym, true, ℕ, ◌&&◌, ◌+◌, ◌==◌, ◌∙◌}
use Rattle.lexical_literal.proofs.Common.{◌≡◌}
use Rattle.lexical_literal.specs.declared.step.Stage.TheVariants as stages
use Rattle.lexical_util.specs.declared.format_flags.Part.TheVariants as parts
use Rattle.lexical_literal.proofs.ScanLemmas.{read_first, read_led}
use Rattle.lexical_literal.proofs.StepLemmas.{awaited_part}
use Rattle.lexical_literal.proofs.SumLemmas.{behind_digit, is_digit, pushed, same_run}
use Rattle.lexical_literal.proofs.scan.digits.Goals as goal
use Rattle.lexical_literal.proofs.scan.digits.Goals.{then-text-begun-ne48-via-then-text-begun-ne48}
use Rattle.lexical_literal.proofs.scan.digits.Goals.{then-text-begun-ne48-via-else-text-begun-ne48+then-not-awaits_integer}

first_digit : (g : Grammar) (text : List ℕ) (part : Part) (none one last : Reading) (v : ℕ) (stage : Stage) (leads : Bool) → HasRoles (steps_of g)
    → part_of none.stage ≡ part → has_digit none.stage ≡ false → is_signed (steps_of g) part none.stage ≡ true
    → may_read (steps_of g) text none.size none.stage ≡ true
    → IsDigitAt (radix_of (raw g.word) part) text none.size v → one ≡ pushed (radix_of (raw g.word) part) none v 1
    → ((get_or text none.size 0 == 48) && awaits_integer none.stage) ≡ leads → (if leads then stages.Bare else digits_of part) ≡ stage
    → IsRunOn (steps_of g) (radix_of (raw g.word) part) text part (record one { stage = stage }) last
    → IsRunOn (steps_of g) (radix_of (raw g.word) part) text part none last
first_digit g text part none one last v stage leads h in_part lacks signed free digit same first is =
    let radix = radix_of (raw g.word) part in
    behind_digit (steps_of g) radix text part none stage v one last digit same
    (subst (λ stage. IsReadOn (steps_of g) text (at_stage none.size none.stage) (digits_piece part) (at_stage (none.size + 1) stage))
    (ap (λ leads. if leads then stages.Bare else digits_of part) first ∙ is)
    (read_first (steps_of g) text h part none.size none.stage in_part digit.0 (is_digit radix (get_or text none.size 0) v digit.1) lacks signed free))

later_digit : (g : Grammar) (text : List ℕ) (part : Part) (one two last : Reading) (v : ℕ) → HasRoles (steps_of g) → parts.Integer ≡ part
    → IsDigitAt (radix_of (raw g.word) part) text one.size v → two ≡ pushed (radix_of (raw g.word) part) one v 1
    → may_follow (steps_of g) stages.Bare ≡ true → is_free (steps_of g) stages.Bare ≡ true
    → IsRunOn (steps_of g) (radix_of (raw g.word) part) text part (record two { stage = stages.Led }) last
    → IsRunOn (steps_of g) (radix_of (raw g.word) part) text part (record one { stage = stages.Bare }) last
later_digit g text part one two last v h in_part digit same may free =
    let m = steps_of g in
    let radix = radix_of (raw g.word) part in
    let zero : Reading = record one { stage = stages.Bare } in
    behind_digit m radix text part zero stages.Led v (record two { stage = stages.Bare }) last digit
    (ap (λ (run : Reading). record run { stage = stages.Bare }) same)
    (subst (λ part. IsReadOn m text (at_stage one.size stages.Bare) (digits_piece part) (at_stage (one.size + 1) stages.Led)) in_part
    (read_led m text h one.size digit.0
    (subst (λ part. m.digit part (get_or text one.size 0) ≡ true) (sym in_part) (is_digit radix (get_or text one.size 0) v digit.1)) may free))

bare_free : (m : Notation) (text : List ℕ) (size : ℕ) (stage : Stage) → awaits_integer stage ≡ true → may_read m text size stage ≡ true
    → is_free m stages.Bare ≡ true
bare_free m text size stage begun first = grind arith

begun_later : (zero awaits : Bool) → awaits ≡ false → (zero && awaits) ≡ false
begun_later zero awaits is = grind arith

no_zero : (b : ℕ) (awaits : Bool) → (b ≡ 48 → ⊥) → ((b == 48) && awaits) ≡ false
no_zero b awaits is = grind arith

pub returns-then-text-begun-ne48-clause-run : goal.returns-then-text-begun-ne48-clause-run
returns-then-text-begun-ne48-clause-run c =
    let text = c.args.text.now in
    let b = get_or text c.args.begun.size 0 in
    let other : ((b == 48) && awaits_integer c.args.begun.stage) ≡ false = elim c.then-text-begun-ne48.branch [
      | then-text-begun-ne48-via-then-text-begun-ne48 w ↦ no_zero b _ w.if-text-begun-ne48.true
      | then-text-begun-ne48-via-else-text-begun-ne48+then-not-awaits_integer w ↦
          begun_later (b == 48) _ (sym w.awaits_integer.ensures ∙ w.if-not-awaits_integer.true)
    ] in
    first_digit c.args.grammar text c.args.part _ c.with_digit-one.result c.more_digits.result c.in-Some.value c.digits_of-stage.result
    false c.requires.ready.roles c.requires.part c.requires.none c.requires.signed c.requires.first c.in-Some.ensures.some c.with_digit-one.ensures other
    (sym c.digits_of-stage.ensures) c.more_digits.ensures.run

pub returns-in-Some-value_at-clause-run : goal.returns-in-Some-value_at-clause-run
returns-in-Some-value_at-clause-run c =
    let g = c.args.grammar in
    let text = c.args.text.now in
    let part = c.args.part in
    let naught : (get_or text c.args.begun.size 0 == 48) ≡ true = ap (λ b. b == 48) c.if-text-begun-ne48.false in
    let begun : awaits_integer c.args.begun.stage ≡ true = sym c.awaits_integer.ensures ∙ c.if-not-awaits_integer.false in
    first_digit g text part _ c.with_digit-one.result _ c.in-Some.value stages.Bare true c.requires.ready.roles c.requires.part c.requires.none
    c.requires.signed c.requires.first c.in-Some.ensures.some c.with_digit-one.ensures (λ j. naught j && begun j) refl
    (later_digit g text part c.with_digit-one.result c.with_digit-two.result _ c.in-Some-value_at.value c.requires.ready.roles
    (sym (awaited_part c.args.begun.stage begun) ∙ c.requires.part) c.in-Some-value_at.ensures.some c.with_digit-two.ensures
    (sym c.may_follow.ensures ∙ c.if-may_follow.true) (bare_free (steps_of g) text c.args.begun.size c.args.begun.stage begun c.requires.first)
    c.more_digits-in-Some-value_at.ensures.run)

pub returns-in_default-value_at-clause-run : goal.returns-in_default-value_at-clause-run
returns-in_default-value_at-clause-run c =
    let g = c.args.grammar in
    let text = c.args.text.now in
    let part = c.args.part in
    let naught : (get_or text c.args.begun.size 0 == 48) ≡ true = ap (λ b. b == 48) c.if-text-begun-ne48.false in
    let begun : awaits_integer c.args.begun.stage ≡ true = sym c.awaits_integer.ensures ∙ c.if-not-awaits_integer.false in
    first_digit g text part _ c.with_digit-one.result _ c.in-Some.value stages.Bare true c.requires.ready.roles c.requires.part c.requires.none
    c.requires.signed c.requires.first c.in-Some.ensures.some c.with_digit-one.ensures (λ j. naught j && begun j) refl
    (same_run (steps_of g) (radix_of (raw g.word) part) text part (record c.with_digit-one.result { stage = stages.Bare }))

-- Where no digit follows, none was required, and behind a digit, none is.
none_free : (m : Notation) (text : List ℕ) (part : Part) (size : ℕ) (stage : Stage) → part_of stage ≡ part
    → (size < length text → m.digit part (get_or text size 0) ≡ false) → may_read m text size stage ≡ true → is_free m stage ≡ true
none_free m text part size stage is none first = grind (arith, nat_tests, awaited_part)

run_free : (m : Notation) (part : Part) → is_free m (digits_of part) ≡ true
run_free m part = grind arith

pub returns-in_default-clause-free : goal.returns-in_default-clause-free
returns-in_default-clause-free c = none_free (steps_of c.args.grammar) c.args.text.now c.args.part c.args.begun.size c.args.begun.stage c.requires.part
    (c.in_default.ensures.none refl) c.requires.first

pub returns-then-text-begun-ne48-clause-free : goal.returns-then-text-begun-ne48-clause-free
returns-then-text-begun-ne48-clause-free c = subst (λ stage. is_free (steps_of c.args.grammar) stage ≡ true)
    (sym (c.more_digits.ensures.stage ∙ c.digits_of-stage.ensures)) (run_free (steps_of c.args.grammar) c.args.part)

pub returns-in-Some-value_at-clause-part : goal.returns-in-Some-value_at-clause-part
returns-in-Some-value_at-clause-part c =
    let begun : awaits_integer c.args.begun.stage ≡ true = sym c.awaits_integer.ensures ∙ c.if-not-awaits_integer.false in
    ap part_of c.more_digits-in-Some-value_at.ensures.stage ∙ sym (awaited_part c.args.begun.stage begun) ∙ c.requires.part

pub returns-in_default-value_at-clause-free : goal.returns-in_default-value_at-clause-free
returns-in_default-value_at-clause-free c =
    let begun : awaits_integer c.args.begun.stage ≡ true = sym c.awaits_integer.ensures ∙ c.if-not-awaits_integer.false in
    bare_free (steps_of c.args.grammar) c.args.text.now c.args.begun.size c.args.begun.stage begun c.requires.first
