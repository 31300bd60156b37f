-- Where reading stops is where the error is.
use Rattle.lexical_forms.proofs.Common.{GoesTo, Grammar, IsFront, IsOpenedTo, IsSyntax, Stopped, [], ap, arith, inl, notation_of, rules, subst, sym, ◌<◌}
use Rattle.lexical_forms.proofs.BehindLemmas.{goes_before, goes_behind, refused_behind}
use Rattle.lexical_forms.proofs.form.Form.stop.Goals as goal

pub returns-clause-stop : goal.returns-clause-stop
returns-clause-stop c none =
    refused_behind c.args.self.now c.args.text.now c.opened-opened.result c.split_at.result.1.now c.opened-opened.ensures
    (omega (arith, c.if-opened-size.false, c.size.ensures)) c.split_at.ensures.back c.stop-stop.result c.at-2.result c.stop-stop.ensures none c.at-2.ensures

pub returns-then-opened-size-clause-stop : goal.returns-then-opened-size-clause-stop
returns-then-opened-size-clause-stop c none =
    let g = c.args.self.now in
    let lawful : IsSyntax c.syntax-syntax.result = search rules in
    let some = subst (λ (g : Grammar). IsFront (notation_of g) []) c.syntax-syntax.ensures (c.literal_facts.ensures.some c.syntax-syntax.result lawful) in
    let short : c.opened-opened.result < g.opening.size = omega (arith, c.if-opened-size.true, c.size.ensures) in
    let size = sym (ap (λ (s : Stopped). s.size) c.at.ensures) in (
      subst (GoesTo c.args.text.now g) size (goes_before g c.args.text.now some c.opened-opened.result c.opened-opened.ensures short),
      inl (record {
        opened = subst (IsOpenedTo g.opening c.args.text.now) size c.opened-opened.ensures;
        short = subst (λ k. k < g.opening.size) size short;
      }),
    )

pub returns-then-opened-size-clause-valid : goal.returns-then-opened-size-clause-valid
returns-then-opened-size-clause-valid c =
    let g = c.args.self.now in
    let lawful : IsSyntax c.syntax-syntax.result = search rules in
    let some = subst (λ (g : Grammar). IsFront (notation_of g) []) c.syntax-syntax.ensures (c.literal_facts.ensures.some c.syntax-syntax.result lawful) in
    subst (GoesTo c.args.text.now g) (sym (ap (λ s. s.size) c.at.ensures))
    (goes_before g c.args.text.now some c.opened-opened.result c.opened-opened.ensures (omega (arith, c.if-opened-size.true, c.size.ensures)))

pub returns-clause-valid : goal.returns-clause-valid
returns-clause-valid c =
    goes_behind c.args.self.now c.args.text.now c.opened-opened.result c.split_at.result.1.now c.opened-opened.ensures
    (omega (arith, c.if-opened-size.false, c.size.ensures)) c.split_at.ensures.back c.stop-stop.result.size _ c.stop-stop.ensures.valid
    (ap (λ s. s.size) c.at-2.ensures)
