-- What the syntax finds behind the opening.
use Rattle.lexical_forms.proofs.Common.{Grammar, IsNone, NoFrontPast, arith, notation_of, refl, subst, sym}
use Rattle.lexical_forms.proofs.BehindLemmas.{found_in, past_longer}
use Rattle.lexical_forms.proofs.FormLemmas.{no_longer_front}
use Rattle.lexical_forms.proofs.OpeningLemmas.{past_before}
use Rattle.lexical_forms.proofs.form.Form.front_past.Goals as goal
use Rattle.lexical_forms.proofs.form.Form.front_past.Goals.{then-opened-size-via-then-opened-size, then-opened-size-via-else-opened-size+then-lacks_longer}

pub returns-then-opened-size-clause-none : goal.returns-then-opened-size-clause-none
returns-then-opened-size-clause-none c _ =
    let g = c.args.self.now in let text = c.args.text.now in let opened = c.opened-opened.result in let part = c.split_at.result.1.now in
    elim c.then-opened-size.branch [
      | then-opened-size-via-then-opened-size w ↦ past_before text g opened c.opened-opened.ensures (omega (arith, w.if-opened-size.true, c.size.ensures)) _
      | then-opened-size-via-else-opened-size+then-lacks_longer w ↦
          past_longer g text opened part c.opened-opened.ensures (omega (arith, w.if-opened-size.false, c.size.ensures)) c.split_at.ensures.back
          c.args.size c.saturating_sub-least.result c.saturating_sub-least.ensures
          (subst (λ (g : Grammar). NoFrontPast (notation_of g) part c.saturating_sub-least.result) w.grammar.ensures.value
          (w.lacks_longer.ensures.front w.if-lacks_longer.true))
    ]

pub returns-in_default-clause-none : goal.returns-in_default-clause-none
returns-in_default-clause-none c _ =
    past_longer c.args.self.now c.args.text.now c.opened-opened.result c.split_at.result.1.now c.opened-opened.ensures
    (omega (arith, c.if-opened-size.false, c.size.ensures)) c.split_at.ensures.back c.args.size c.saturating_sub-least.result
    c.saturating_sub-least.ensures (λ more past. c.front-found.ensures.none (subst IsNone (sym c.in_default.is) refl) more)

pub returns-then-found-least-clause-none : goal.returns-then-found-least-clause-none
returns-then-found-least-clause-none c _ =
    past_longer c.args.self.now c.args.text.now c.opened-opened.result c.split_at.result.1.now c.opened-opened.ensures
    (omega (arith, c.if-opened-size.false, c.size.ensures)) c.split_at.ensures.back c.args.size c.saturating_sub-least.result
    c.saturating_sub-least.ensures
    (no_longer_front (notation_of c.args.self.now.syntax) c.split_at.result.1.now c.saturating_sub-least.result c.in-Some.found
    (c.front-found.ensures.longest c.in-Some.found c.in-Some.is) c.if-found-least.true)

pub overflow_add-size : goal.overflow_add-size
overflow_add-size c = let within = (c.front-found.ensures.longest c.in-Some.found c.in-Some.is).reads.within in grind (arith, within)

pub returns-clause-some : goal.returns-clause-some
returns-clause-some c =
    let found = c.in-Some.found in (
      omega (arith, c.if-found-least.false, c.saturating_sub-least.ensures),
      found_in c.args.self.now c.args.text.now c.opened-opened.result c.split_at.result.1.now c.opened-opened.ensures
          (omega (arith, c.if-opened-size.false, c.size.ensures)) c.split_at.ensures.back found
          (c.front-found.ensures.longest found c.in-Some.is) _ refl,
    )
