-- The form that goes further.
use Rattle.lexical_forms.proofs.Common.{IsLed, arith, subst}
use Rattle.lexical_forms.proofs.FormLemmas.{leads_first, leads_less, leads_more, no_further}
use Rattle.lexical_forms.proofs.list.Forms.further.Goals as goal

pub returns-in_default : goal.returns-in_default
returns-in_default c limit led = leads_first c.args.self.now.forms c.args.text.now c.args.form limit c.reached.result c.reached.ensures.form
    c.reached.ensures.here c.reached.ensures.reach (subst (IsLed c.args.self.now.forms c.args.text.now c.args.form limit) c.in_default.is led)

pub returns-then-stop-best : goal.returns-then-stop-best
returns-then-stop-best c limit led = no_further c.args.self.now.forms c.args.text.now c.args.form limit c.in-Some.best
    (subst (IsLed c.args.self.now.forms c.args.text.now c.args.form limit) c.in-Some.is led) c.args.stop c.requires c.if-stop-best.true

pub returns-then-best-other : goal.returns-then-best-other
returns-then-best-other c limit led = leads_more c.args.self.now.forms c.args.text.now c.args.form limit c.reached-other.result c.reached-other.ensures.form
    c.reached-other.ensures.here c.reached-other.ensures.reach c.in-Some.best
    (subst (IsLed c.args.self.now.forms c.args.text.now c.args.form limit) c.in-Some.is led) c.if-best-other.true

pub returns-else-best-other : goal.returns-else-best-other
returns-else-best-other c limit led = leads_less c.args.self.now.forms c.args.text.now c.args.form limit c.reached-other.result c.reached-other.ensures.form
    c.reached-other.ensures.here c.reached-other.ensures.reach c.in-Some.best
    (subst (IsLed c.args.self.now.forms c.args.text.now c.args.form limit) c.in-Some.is led) (omega (arith, c.if-best-other.false))
