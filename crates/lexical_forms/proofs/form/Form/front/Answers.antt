-- What the syntax finds behind the opening.
use Rattle.lexical_forms.proofs.Common.{Grammar, IsFront, IsNone, IsSyntax, [], arith, notation_of, refl, rules, subst, sym}
use Rattle.lexical_forms.proofs.BehindLemmas.{found_in, goes_before, goes_behind, past_longer}
use Rattle.lexical_forms.proofs.OpeningLemmas.{past_before}
use Rattle.lexical_forms.proofs.TokenLemmas.{some_byte}
use Rattle.lexical_forms.proofs.form.Form.front.Goals as goal

pub returns-then-opened-size-clause-valid : goal.returns-then-opened-size-clause-valid
returns-then-opened-size-clause-valid c =
    let g = c.args.self.now in
    let lawful : IsSyntax c.syntax-syntax.result = search rules in
    let some = subst (λ (g : Grammar). IsFront (notation_of g) []) c.syntax-syntax.ensures (c.literal_facts.ensures.some c.syntax-syntax.result lawful) in
    goes_before g c.args.text.now some c.opened-opened.result c.opened-opened.ensures (omega (arith, c.if-opened-size.true, c.size.ensures))

pub returns-then-opened-size-clause-none : goal.returns-then-opened-size-clause-none
returns-then-opened-size-clause-none c _ = past_before c.args.text.now c.args.self.now c.opened-opened.result c.opened-opened.ensures
    (omega (arith, c.if-opened-size.true, c.size.ensures)) _

pub returns-in_default-clause-valid : goal.returns-in_default-clause-valid
returns-in_default-clause-valid c =
    goes_behind c.args.self.now c.args.text.now c.opened-opened.result c.split_at.result.1.now c.opened-opened.ensures
    (omega (arith, c.if-opened-size.false, c.size.ensures)) c.split_at.ensures.back c.front-found.result.0.size _ c.front-found.ensures.reached.valid refl

pub returns-in_default-clause-none : goal.returns-in_default-clause-none
returns-in_default-clause-none c _ =
    past_longer c.args.self.now c.args.text.now c.opened-opened.result c.split_at.result.1.now c.opened-opened.ensures
    (omega (arith, c.if-opened-size.false, c.size.ensures)) c.split_at.ensures.back 0 0
    (omega arith) (λ more past. c.front-found.ensures.none (subst IsNone (sym c.in_default.is) refl) more)

pub overflow_add-size : goal.overflow_add-size
overflow_add-size c = let within = (c.front-found.ensures.longest c.in-Some.found c.in-Some.is).reads.within in grind (arith, within)

pub returns-clause-valid : goal.returns-clause-valid
returns-clause-valid c =
    goes_behind c.args.self.now c.args.text.now c.opened-opened.result c.split_at.result.1.now c.opened-opened.ensures
    (omega (arith, c.if-opened-size.false, c.size.ensures)) c.split_at.ensures.back c.front-found.result.0.size _ c.front-found.ensures.reached.valid refl

pub returns-clause-some : goal.returns-clause-some
returns-clause-some c =
    let found = c.in-Some.found in
    let counted = c.front-found.ensures.longest found c.in-Some.is in
    let is = found_in c.args.self.now c.args.text.now c.opened-opened.result c.split_at.result.1.now c.opened-opened.ensures
    (omega (arith, c.if-opened-size.false, c.size.ensures)) c.split_at.ensures.back found counted _ refl in
    (some_byte c.args.self.now c.args.text.now _ is, is)
