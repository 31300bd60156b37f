-- What is known of the forms that have been asked.
use Rattle.lexical_forms.proofs.Common.{FormList, IsWinner, IsYet, arith, length, slice_get, subst, sym, tried, ◌+◌, ◌<◌}
use Rattle.lexical_forms.proofs.FormLemmas.{some_of}
use Rattle.lexical_forms.proofs.LongestLemmas.{pass, size_tried, start, winner}
use Rattle.lexical_forms.proofs.list.Forms.longest.Goals as goal
use Rattle.lexical_forms.proofs.list.Forms.longest.Goals.{then-not-passes, else-not-passes, in-Some, in_default}

pub loop-form-init : goal.loop-form-init
loop-form-init c =
    let list : FormList = record { forms = c.self.inside.forms.now; specials = c.self.inside.specials; tokens = c.self.inside.tokens } in
    let t = c.args.tokens.now in let text = c.args.text.now in let least = c.args.least in let join = c.match-first in
    elim join.branch [
      | in-Some w ↦
          let asked = some_of _ (slice_get (tried c.args.self.now t) 0) (c.requires w.in-Some.asked w.in-Some.is) in
          subst (λ i. IsYet list t text least i join.found) (sym w.form-is) (subst (IsYet list t text least 1) (sym w.found-is)
          (subst (λ (l : FormList). IsYet l t text least 1 w.longer-found.result) (sym c.self.view_is)
          (w.longer-found.ensures asked.0 asked.1 asked.2 (start c.args.self.now t text least))))
      | in_default w ↦ subst (λ i. IsYet list t text least i join.found) (sym w.form-is) (subst (IsYet list t text least 0) (sym w.found-is) (start list t text least))
    ]

pub passes-requires : goal.passes-requires
passes-requires c = subst (λ (l : FormList). c.loop-form.form < length (tried l c.args.tokens.now)) c.self.view_is
    (let size = size_tried (record { forms = c.self.inside.forms.now; specials = c.self.inside.specials; tokens = c.self.inside.tokens }) c.args.tokens.now in
    omega (arith, size, c.loop-form-test.true))

pub ask-found-requires : goal.ask-found-requires
ask-found-requires c = subst (λ (l : FormList). c.loop-form.form < length (tried l c.args.tokens.now)) c.self.view_is
    (let size = size_tried (record { forms = c.self.inside.forms.now; specials = c.self.inside.specials; tokens = c.self.inside.tokens }) c.args.tokens.now in
    omega (arith, size, c.loop-form-test.true))

pub loop-form-preserved : goal.loop-form-preserved
loop-form-preserved c =
    let t = c.args.tokens.now in let text = c.args.text.now in let least = c.args.least in let form = c.loop-form.form in
    let old = subst (λ (l : FormList). IsYet l t text least form c.loop-form.found) c.self.view_is c.loop-form.invariant in
    subst (λ (l : FormList). IsYet l t text least (form + 1) c.if-not-passes.found) (sym c.self.view_is) (elim c.if-not-passes.branch [
      | then-not-passes w ↦ subst (IsYet c.args.self.now t text least (form + 1)) (sym w.found-is) (w.ask-found.ensures old)
      | else-not-passes w ↦ (let over = c.passes.ensures w.if-not-passes.false in
          subst (IsYet c.args.self.now t text least (form + 1)) (sym w.found-is) (pass c.args.self.now t text least form over.0 over.1 c.loop-form.found old over.2))
    ])

pub returns : goal.returns
returns c = λ sure. subst (λ (l : FormList). IsWinner l c.args.tokens.now c.args.text.now c.loop-form.found) c.self.view_is
    (winner (record { forms = c.self.inside.forms.now; specials = c.self.inside.specials; tokens = c.self.inside.tokens })
    c.args.tokens.now c.args.text.now c.args.least c.loop-form.form
    (let size = size_tried (record { forms = c.self.inside.forms.now; specials = c.self.inside.specials; tokens = c.self.inside.tokens })
    c.args.tokens.now in omega (arith, size, c.loop-form-test.false)) c.loop-form.found c.loop-form.invariant sure)
