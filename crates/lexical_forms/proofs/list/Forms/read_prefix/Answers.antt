-- The literal of the first form, behind which no form goes on.
use Rattle.lexical_forms.proofs.Common.{Form, FormList, HasFront, IsGreatest, IsSomeAnd, ReadsForm, arith, drop, get_or}
use Rattle.lexical_forms.proofs.Common.{slice_get, slice_get-get_or, subst, sym, take, ℕ, ◌-◌, ◌∙◌, ◌≡◌, ap}
use Rattle.lexical_forms.proofs.EndLemmas.{made_first, greatest_ended, kind_ended}
use Rattle.lexical_forms.specs.Additions.Token.{IsEndedAt}
use Rattle.lexical_forms.proofs.list.Forms.read_prefix.Goals as goal

pub made-literal-requires : goal.made-literal-requires
made-literal-requires c = (made_first _ _ _ c.self.view_is c.index-self-0.result c.in-Some.candidate (c.ended.ensures c.in-Some.candidate c.in-Some.is)).ready

pub returns-in-Some : goal.returns-in-Some
returns-in-Some c =
    let text = c.args.text.now in let candidate = c.in-Some.candidate in let size = candidate.size in let made = c.made-literal in let literal = made.result.literal in
    let list : FormList = record { forms = c.self.inside.forms.now; specials = c.self.inside.specials; tokens = c.self.inside.tokens } in
    let e = subst (λ (l : FormList). IsEndedAt l text candidate) (sym c.self.view_is) (c.ended.ensures candidate c.in-Some.is) in
    let first = get_or list.forms 0 c.index-self-0.result in
    let at = slice_get-get_or list.forms 0 c.index-self-0.result c.self.invariant.0 in let end = e.end in
    let kind = kind_ended first.suffixes made.result.suffix.now first.kind
    (made.ensures.suffix ∙ ap (λ n. take n (drop size text)) (let none : candidate.end - size ≡ 0 = omega (arith, end) in none)) in
    subst (λ (l : FormList). (n : ℕ) × IsGreatest (HasFront text) l.forms 0 n
    × IsSomeAnd (slice_get l.forms 0) (λ form. ReadsForm (take n text) literal form × (literal.opened ≡ form.opening.size))
    × (made.result.rest.now ≡ drop n text))
    c.self.view_is (
      size,
      greatest_ended list text candidate e,
      subst (λ o. IsSomeAnd o (λ (form : Form). ReadsForm (take size text) literal form × (literal.opened ≡ form.opening.size))) (sym at)
          ((made.ensures.literal.0, made.ensures.kind ∙ kind, made.ensures.literal.1), made.ensures.opened),
      made.ensures.rest ∙ ap (λ n. drop n text) end,
    )
