-- What is behind the opening, if it is there.
use Rattle.lexical_forms.proofs.Common.{arith, refl, sym}
use Rattle.lexical_forms.proofs.BehindLemmas.{opening_is, passed_before}
use Rattle.lexical_forms.proofs.OpeningLemmas.{no_opening}
use Rattle.lexical_forms.proofs.form.Form.begins.Goals as goal

pub begins_behind-requires-clause-size : goal.begins_behind-requires-clause-size
begins_behind-requires-clause-size c = sym c.if-self-eq0.true

pub begins_behind-requires-clause-opened : goal.begins_behind-requires-clause-opened
begins_behind-requires-clause-opened c = no_opening c.args.self.now.opening c.args.text.now c.if-self-eq0.true

pub returns-then-opened-size-clause-passed : goal.returns-then-opened-size-clause-passed
returns-then-opened-size-clause-passed c = passed_before c.args.self.now c.args.text.now c.opened-opened.result c.opened-opened.ensures
    (omega (arith, c.if-opened-size.true, c.size.ensures))

pub begins_behind-requires-2-clause-size : goal.begins_behind-requires-2-clause-size
begins_behind-requires-2-clause-size c = let inside = c.opened-opened.ensures.inside in omega (arith, inside, c.if-opened-size.false, c.size.ensures)

pub begins_behind-requires-2-clause-opened : goal.begins_behind-requires-2-clause-opened
begins_behind-requires-2-clause-opened c = opening_is c.args.self.now c.args.text.now c.opened-opened.result _ c.opened-opened.ensures
    (omega (arith, c.if-opened-size.false, c.size.ensures)) refl
