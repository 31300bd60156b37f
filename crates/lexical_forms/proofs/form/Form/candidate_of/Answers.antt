-- What has been read is the longest front, behind which no literal goes on.
use Rattle.lexical_forms.proofs.Common.{Found, Some, sym, ◌+◌, ◌∙◌}
use Rattle.lexical_forms.proofs.LongestLemmas.{read_front, read_over, read_sums}
use Rattle.lexical_forms.proofs.TokenLemmas.{kept, none_is, with_suffix, without_suffix}
use Rattle.lexical_forms.proofs.form.Form.candidate_of.Goals as goal

pub returns-then-not-gives_back-clause-some : goal.returns-then-not-gives_back-clause-some
returns-then-not-gives_back-clause-some c =
    let g = c.args.self.now in let text = c.args.text.now in let begun = c.args.begun in let r = c.requires in
    let within = c.is_last.ensures c.if-is_last.true in
    let is = read_front g text c.args.inside.now c.args.opened r.opened r.least r.inside begun r.begun c.if-begun.true within in
    let front : Found = record { size = c.args.opened + begun.at.size; counts = begun.counts } in
    with_suffix c.args.back c.args.needs text g front is front (kept c.args.back g text front is (sym c.if-not-gives_back.ensures)) (Some begun.sums)
    (read_sums g text c.args.inside.now c.args.opened r.opened r.least r.inside begun r.begun c.if-begun.true within r.summed)
    c.suffixed.result c.suffixed.ensures.candidate c.suffixed.ensures.within

pub returns-then-not-gives_back-clause-none : goal.returns-then-not-gives_back-clause-none
returns-then-not-gives_back-clause-none c none =
    let g = c.args.self.now in let text = c.args.text.now in let begun = c.args.begun in let r = c.requires in
    let within = c.is_last.ensures c.if-is_last.true in
    let is = read_front g text c.args.inside.now c.args.opened r.opened r.least r.inside begun r.begun c.if-begun.true within in
    let front : Found = record { size = c.args.opened + begun.at.size; counts = begun.counts } in
    without_suffix c.args.back c.args.needs text g front is front (kept c.args.back g text front is (sym c.if-not-gives_back.ensures)) (Some begun.sums)
    (sym c.suffixed.ensures.candidate ∙ none_is c.suffixed.result none)

pub returns-then-not-gives_back-clause-over : goal.returns-then-not-gives_back-clause-over
returns-then-not-gives_back-clause-over c =
    let r = c.requires in
    read_over c.args.self.now c.args.text.now c.args.inside.now c.args.opened r.opened r.least r.inside c.args.begun r.begun c.if-begun.true
    (c.is_last.ensures c.if-is_last.true) c.args.back
