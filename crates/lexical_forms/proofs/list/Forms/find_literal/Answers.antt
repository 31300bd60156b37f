-- The first form that reads the text, or the form whose error is that of the list.
use Rattle.lexical_forms.proofs.Common.{All-more, ArePassed, FormList, Furthest, IfSome, IsLed, IsRefusedAt, IsSomeAnd, Leads, List, NoForm}
use Rattle.lexical_forms.proofs.Common.{None, NoneBy, Option, Reaches}
use Rattle.lexical_forms.proofs.Common.{ReadsIn, Stopped, arith, get_or, length, length-take-le, nat_tests, refl, slice_get}
use Rattle.lexical_forms.proofs.Common.{subst, sym, take, ℕ, ◌+◌, ◌∙◌, ◌≡◌, ◌≤◌}
use Rattle.lexical_forms.proofs.BehindLemmas.{none_in}
use Rattle.lexical_forms.proofs.FormLemmas.{all_passed, all_tried, at_index, first_none, found_is, leads_first, leads_past}
use Rattle.lexical_forms.proofs.FormLemmas.{led_past}
use Rattle.lexical_forms.proofs.list.Forms.find_literal.Goals as goal
use Rattle.lexical_forms.proofs.list.Forms.find_literal.Goals.{in-None, in-Some-furthest, in-Some, in_default}
use Rattle.lexical_forms.proofs.list.Forms.find_literal.Goals.{in-Err+then-bound-size, in-Err+else-bound-size, in-Ok+in-Err-read}

no_form : (list self : FormList) (text : List ℕ) (i : ℕ) → list ≡ self → length list.forms ≤ i → NoForm (take i list.forms) text → NoForm self.forms text
no_form list self text i same end none =
    subst (λ (l : FormList). NoForm l.forms text) same (all_tried list.forms text i end (λ g. NoneBy (ReadsIn g) text) none)

pub loop-form-init : goal.loop-form-init
loop-form-init c =
    let forms = c.self.inside.forms.now in let text = c.args.text.now in
    elim c.match-stop.branch [
      | in-Some w ↦
          let here = subst (λ (l : FormList). IsSomeAnd (slice_get l.forms 0) (IsRefusedAt text w.in-Some.stop)) (sym c.self.view_is)
          (subst (λ (o : Option Stopped). IfSome o (λ stop. IsSomeAnd (slice_get c.args.self.now.forms 0) (IsRefusedAt text stop)))
          w.in-Some.is c.requires) in
          begun c.match-stop.form 1 c.match-stop.furthest _ w.form-is w.furthest-is (first_none forms text w.in-Some.stop here)
          (leads_first forms text 0 1 w.reached.result w.reached.ensures.form
          (subst (λ (l : FormList). IsSomeAnd (slice_get l.forms 0) (IsRefusedAt text w.reached.result.stop)) (sym c.self.view_is) w.reached.ensures.here)
          (subst (λ (l : FormList). IsSomeAnd (slice_get l.forms 0) (λ g. Reaches text g w.reached.result.reach)) (sym c.self.view_is)
          w.reached.ensures.reach) (λ k d below. absurd (omega (arith, below))))
      | in_default w ↦ begun c.match-stop.form 0 c.match-stop.furthest None w.form-is w.furthest-is
          (λ k d below. absurd (omega (arith, below, length-take-le 0 forms (omega arith)))) (λ k d below. absurd (omega (arith, below)))
    ] where
      begun : (i j : ℕ) (furthest other : Option Furthest) → i ≡ j → furthest ≡ other → NoForm (take j c.self.inside.forms.now) c.args.text.now
          → IsLed c.self.inside.forms.now c.args.text.now j 1 other
          → NoForm (take i c.self.inside.forms.now) c.args.text.now × IsLed c.self.inside.forms.now c.args.text.now i 1 furthest
      begun i j furthest other same is none led = (
        subst (λ i. NoForm (take i c.self.inside.forms.now) c.args.text.now) (sym same) none,
        subst (λ i. IsLed c.self.inside.forms.now c.args.text.now i 1 furthest) (sym same)
            (subst (IsLed c.self.inside.forms.now c.args.text.now j 1) (sym is) led),
      )

pub returns-in-Ok-read : goal.returns-in-Ok-read
returns-in-Ok-read c = rw (← c.self.view_is) (found_is c.self.inside.forms.now c.args.text.now c.loop-form.form c.index-self-form.result
    c.in-Ok-read.literal c.loop-form-test.true c.in-Ok-read.ensures.some c.loop-form.invariant.0)

pub further-requires : goal.further-requires
further-requires c =
    let forms = c.self.inside.forms.now in let text = c.args.text.now in let i = c.loop-form.form in
    subst (λ (l : FormList). IsSomeAnd (slice_get l.forms i) (IsRefusedAt text c.in-Err-read.stop)) c.self.view_is
    (at_index (IsRefusedAt text c.in-Err-read.stop) forms forms c.index-self-form.result i refl c.loop-form-test.true c.in-Err-read.ensures.stop)

pub loop-form-preserved : goal.loop-form-preserved
loop-form-preserved c =
    let forms = c.self.inside.forms.now in let text = c.args.text.now in let i = c.loop-form.form in let d = c.index-self-form.result in
    let inside = c.loop-form-test.true in let old = c.loop-form.invariant in let furthest = c.match-furthest.furthest in let bound = c.loop-form.bound in
    let same : furthest ≡ c.loop-form.furthest =
    elim c.match-furthest.branch [ in-None v ↦ v.furthest-is | in-Some-furthest v ↦ v.furthest-is ∙ sym v.in-Some-furthest.is ] in
    let led = subst (IsLed forms text i (bound + 1)) (sym same) old.1 in
    elim c.match-begins.branch [
      | in-Err+then-bound-size w ↦ (
        All-more (λ g. NoneBy (ReadsIn g) text) forms i d inside old.0 w.in-Err.ensures.passed.none,
        subst (λ o. IsLed forms text (i + 1) (c.match-begins.bound + 1) o) (sym w.furthest-is)
            (subst (λ b. IsLed forms text (i + 1) (b + 1) furthest) (sym w.bound-is)
            (led_past forms text i (bound + 1) (w.in-Err.size + 1) w.in-Err.size d furthest inside led
            (omega (arith, w.if-bound-size.true)) (omega arith)
            w.in-Err.ensures.passed)),
      )
      | in-Err+else-bound-size w ↦ (
        All-more (λ g. NoneBy (ReadsIn g) text) forms i d inside old.0 w.in-Err.ensures.passed.none,
        subst (λ o. IsLed forms text (i + 1) (c.match-begins.bound + 1) o) (sym w.furthest-is)
            (subst (λ b. IsLed forms text (i + 1) (b + 1) furthest) (sym w.bound-is)
            (led_past forms text i (bound + 1) (bound + 1) w.in-Err.size d furthest inside led
            (omega arith) (omega (arith, w.if-bound-size.false))
            w.in-Err.ensures.passed)),
      )
      | in-Ok+in-Err-read w ↦ (
        All-more (λ g. NoneBy (ReadsIn g) text) forms i d inside old.0 (none_in (get_or forms i d) text w.in-Err-read.stop w.in-Err-read.ensures.stop),
        subst (λ o. IsLed forms text (i + 1) (c.match-begins.bound + 1) o) (sym w.furthest-is)
            (subst (λ b. Leads forms text (i + 1) (b + 1) w.further.result) (sym w.bound-is)
            (subst (λ (l : FormList). Leads l.forms text (i + 1) (bound + 1) w.further.result) (sym c.self.view_is)
            (w.further.ensures (bound + 1) (subst (λ (l : FormList). IsLed l.forms text i (bound + 1) furthest) c.self.view_is led)))),
      )
    ]

pub at_once-requires-clause-none : goal.at_once-requires-clause-none
at_once-requires-clause-none c = no_form _ _ _ _ c.self.view_is c.loop-form-test.false c.loop-form.invariant.0

pub at_once-requires-clause-passed : goal.at_once-requires-clause-passed
at_once-requires-clause-passed c = subst (λ (l : FormList). ArePassed l.forms c.args.text.now (length l.forms) 1) c.self.view_is
    (all_passed c.self.inside.forms.now c.args.text.now c.loop-form.form c.loop-form.bound c.loop-form.furthest c.loop-form-test.false c.in-None-furthest.is
    (let zero = c.if-bound-eq0.true in grind (arith, nat_tests)) c.loop-form.invariant.1)

pub furthest-requires : goal.furthest-requires
furthest-requires c = no_form _ _ _ _ c.self.view_is c.loop-form-test.false c.loop-form.invariant.0

pub returns-in-Some-furthest-2 : goal.returns-in-Some-furthest-2
returns-in-Some-furthest-2 c =
    let forms = c.self.inside.forms.now in let text = c.args.text.now in let i = c.loop-form.form in let bound = c.loop-form.bound in
    rw (← c.self.view_is) (record {
      found = tt;
      none = λ _. all_tried forms text i c.loop-form-test.false (λ g. NoneBy (ReadsIn g) text) c.loop-form.invariant.0;
      furthest = leads_past forms text i bound c.loop-form-test.false c.in-Some-furthest-2.best (c.is_past.ensures c.if-is_past.true)
          (subst (IsLed forms text i (bound + 1)) c.in-Some-furthest-2.is c.loop-form.invariant.1);
    })

pub returns-in-None-furthest : goal.returns-in-None-furthest
returns-in-None-furthest c = record {
  found = tt;
  none = λ _. no_form _ _ _ _ c.self.view_is c.loop-form-test.false c.loop-form.invariant.0;
  furthest = c.at_once.ensures;
}

pub returns-in_default-furthest : goal.returns-in_default-furthest
returns-in_default-furthest c = record {
  found = tt;
  none = λ _. no_form _ _ _ _ c.self.view_is c.loop-form-test.false c.loop-form.invariant.0;
  furthest = c.furthest.ensures;
}
