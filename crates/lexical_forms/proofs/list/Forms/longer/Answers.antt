-- One form more, whose candidate is longer than the best one, or is not.
use Rattle.lexical_forms.proofs.Common.{sym}
use Rattle.lexical_forms.proofs.LongestLemmas.{gained, no_gain, too_short, without}
use Rattle.lexical_forms.proofs.list.Forms.longer.Goals as goal
use Rattle.lexical_forms.proofs.list.Forms.longer.Goals.{then-candidate-least-via-then-candidate-least, then-candidate-least-via-else-candidate-least+then-not-is_longer}

pub returns-in-None : goal.returns-in-None
returns-in-None c = λ it at asked old. without c.args.self.now c.args.tokens.now c.args.text.now c.args.least c.args.form it at c.args.found old
    c.args.asked.0 c.larger-reach.result c.args.asked.1 asked c.larger-reach.ensures.one c.larger-reach.ensures.other c.in-None.is

pub returns-then-candidate-least : goal.returns-then-candidate-least
returns-then-candidate-least c = λ it at asked old. elim c.then-candidate-least.branch [
  | then-candidate-least-via-then-candidate-least w ↦ too_short c.args.self.now c.args.tokens.now c.args.text.now c.args.least c.args.form it at
      c.args.found old c.args.asked.0 c.larger-reach.result c.args.asked.1 asked c.larger-reach.ensures.one c.larger-reach.ensures.other
      c.in-Some.candidate c.in-Some.is w.if-candidate-least.true
  | then-candidate-least-via-else-candidate-least+then-not-is_longer w ↦ no_gain c.args.self.now c.args.tokens.now c.args.text.now c.args.least c.args.form it at
      c.args.found old c.args.asked.0 c.larger-reach.result c.args.asked.1 asked c.larger-reach.ensures.one c.larger-reach.ensures.other
      c.in-Some.candidate c.in-Some.is (sym w.if-not-is_longer.ensures)
]

pub returns-else-not-is_longer : goal.returns-else-not-is_longer
returns-else-not-is_longer c = λ it at asked old. gained c.args.self.now c.args.tokens.now c.args.text.now c.args.least c.args.form it at c.args.found old
    c.args.asked.0 c.larger-reach.result c.args.asked.1 asked c.larger-reach.ensures.one c.larger-reach.ensures.other c.in-Some.candidate c.in-Some.is
    c.if-candidate-least.false (sym c.if-not-is_longer.ensures) c.is_clear-clear.result c.is_clear-clear.ensures c.past_of.result c.past_of.ensures
