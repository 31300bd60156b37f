-- The token of the candidate, or why it is none.
use Rattle.lexical_forms.proofs.Common.{arith, inl, nat_tests, refl}
use Rattle.lexical_forms.proofs.LongestLemmas.{picked_at, picked_inside}
use Rattle.lexical_forms.proofs.TokenLemmas.{token_is}
use Rattle.lexical_forms.proofs.list.Forms.end_of.Goals as goal

pub fail-requires : goal.fail-requires
fail-requires c = inl (c.requires.none c.in_default.is)

pub tried-it-requires : goal.tried-it-requires
tried-it-requires c = picked_inside c.args.self.now c.args.tokens.now c.args.text.now c.in-Some.form c.in-Some.candidate
    (c.requires.some (c.in-Some.form, c.in-Some.candidate) c.in-Some.is)

pub fault_of-requires-clause-picked : goal.fault_of-requires-clause-picked
fault_of-requires-clause-picked c = picked_at c.args.self.now c.args.tokens.now c.args.text.now c.in-Some.form _ _ c.in-Some.candidate c.tried-it.ensures
    (c.requires.some (c.in-Some.form, c.in-Some.candidate) c.in-Some.is)

pub fault_of-requires-clause-over : goal.fault_of-requires-clause-over
fault_of-requires-clause-over c = λ off. c.requires.over (c.in-Some.form, c.in-Some.candidate) c.in-Some.is (grind (arith, nat_tests))

pub made-requires : goal.made-requires
made-requires c = (picked_at c.args.self.now c.args.tokens.now c.args.text.now c.in-Some.form _ _ c.in-Some.candidate c.tried-it.ensures
    (c.requires.some (c.in-Some.form, c.in-Some.candidate) c.in-Some.is)).ready

pub returns-in-None : goal.returns-in-None
returns-in-None c =
    let picked = picked_at c.args.self.now c.args.tokens.now c.args.text.now c.in-Some.form _ _ c.in-Some.candidate c.tried-it.ensures
    (c.requires.some (c.in-Some.form, c.in-Some.candidate) c.in-Some.is) in let made = c.made in
    token_is c.args.self.now c.args.tokens.now c.args.text.now c.in-Some.form _ c.in-Some.candidate picked made.result made.ensures.form
    made.ensures.literal made.ensures.kind made.ensures.opened made.ensures.suffix made.ensures.rest (c.in-None.ensures.none refl)
