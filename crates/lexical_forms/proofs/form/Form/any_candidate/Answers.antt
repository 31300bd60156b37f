-- The candidate with its suffix.
use Rattle.lexical_forms.proofs.Common.{None, refl, sym, take, ◌∙◌}
use Rattle.lexical_forms.proofs.TokenLemmas.{front_some, no_sums, none_is, with_suffix, without_own, without_suffix}
use Rattle.lexical_forms.proofs.form.Form.any_candidate.Goals as goal

pub returns-in-None-own-clause-none : goal.returns-in-None-own-clause-none
returns-in-None-own-clause-none c _ = without_own c.args.back c.args.needs c.args.text.now c.args.self.now c.in-Some.found (front_some c.args.self.now c.args.text.now
    c.front-stop.result.1 c.front-stop.ensures.some c.in-Some.found c.in-Some.is)
    (c.in-None-own.ensures.none refl)

pub returns-in-Some-own-clause-some : goal.returns-in-Some-own-clause-some
returns-in-Some-own-clause-some c = with_suffix c.args.back c.args.needs c.args.text.now c.args.self.now c.in-Some.found (front_some c.args.self.now c.args.text.now
    c.front-stop.result.1 c.front-stop.ensures.some c.in-Some.found c.in-Some.is)
    c.in-Some-own.own (c.in-Some-own.ensures.some c.in-Some-own.own refl) None
    (no_sums c.args.self.now (take c.in-Some-own.own.size c.args.text.now) c.in-Some-own.own.counts) c.suffixed.result c.suffixed.ensures.candidate c.suffixed.ensures.within

pub returns-in-Some-own-clause-none : goal.returns-in-Some-own-clause-none
returns-in-Some-own-clause-none c none = without_suffix c.args.back c.args.needs c.args.text.now c.args.self.now c.in-Some.found (front_some c.args.self.now c.args.text.now
    c.front-stop.result.1 c.front-stop.ensures.some c.in-Some.found c.in-Some.is)
    c.in-Some-own.own (c.in-Some-own.ensures.some c.in-Some-own.own refl) None (sym c.suffixed.ensures.candidate ∙ none_is c.suffixed.result none)
