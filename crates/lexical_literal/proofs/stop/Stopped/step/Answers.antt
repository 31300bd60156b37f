-- One step decides.
use Rattle.lexical_literal.proofs.Common.{Grammar, Some, ap, arith, get_or, grow, inl, inr, notation_of, part_of, refl, role_at, step, steps_of, sym, ◌∙◌}
use Rattle.lexical_literal.proofs.StoppedLemmas.{same_grow, small_group, stops_at, underway_more}
use Rattle.lexical_literal.proofs.stop.Stopped.step.Goals as goal

pub grow-requires : goal.grow-requires
grow-requires c =
    let small = small_group (notation_of c.args.syntax.now) c.grammar-grammar.ensures.ready c.grammar-grammar.ensures.sizes
    c.args.text.now c.args.self c.args.group
    c.requires in omega (arith, small, c.requires.begun.within)

pub returns-then-size-text-clause-stop : goal.returns-then-size-text-clause-stop
returns-then-size-text-clause-stop c _ =
    stops_at _ c.grammar-grammar.ensures.ready c.grammar-grammar.ensures.sizes _ _ c.args.group c.requires
    (λ inside. let end = c.if-size-text.true in absurd (omega (arith, end, inside)))

pub returns-in_default-clause-stop : goal.returns-in_default-clause-stop
returns-in_default-clause-stop c _ = stops_at _ c.grammar-grammar.ensures.ready c.grammar-grammar.ensures.sizes _ _ c.args.group c.requires
    (λ _. inl (ap (λ (g : Grammar). step (steps_of g) c.args.self.read (get_or c.args.text.now c.args.self.size 0)) (sym c.grammar-grammar.ensures.value)
    ∙ c.in_default.ensures.none refl))

pub returns-in_default-grow-clause-stop : goal.returns-in_default-grow-clause-stop
returns-in_default-grow-clause-stop c _ = let b = get_or c.args.text.now c.args.self.size 0 in
    stops_at _ c.grammar-grammar.ensures.ready c.grammar-grammar.ensures.sizes _ _ c.args.group c.requires (λ _. inr (
    same_grow _ c.grammar-grammar.ensures.ready c.grammar-grammar.ensures.sizes _ _ c.args.group c.requires c.in-Some.role
    (ap (λ (g : Grammar). role_at (steps_of g) (part_of c.args.self.read.stage) b) (sym c.grammar-grammar.ensures.value) ∙ c.in-Some.ensures.some.0)
    ∙ ap (λ (g : Grammar). grow (notation_of g) c.args.group (Some c.in-Some.role)) (sym c.grammar-grammar.ensures.value)
    ∙ sym c.grow.ensures ∙ c.in_default-grow.is
    ))

pub returns-clause-next : goal.returns-clause-next
returns-clause-next c = let within = c.requires.begun.within in let b = get_or c.args.text.now c.args.self.size 0 in
    let role = ap (λ (g : Grammar). role_at (steps_of g) (part_of c.args.self.read.stage) b) (sym c.grammar-grammar.ensures.value)
    ∙ c.in-Some.ensures.some.0 in (
      role,
      underway_more _ c.grammar-grammar.ensures.ready c.grammar-grammar.ensures.sizes _ _ c.args.group c.requires c.in-Some.read c.in-Some-grow.group
          c.in-Some.role (omega (arith, within, c.if-size-text.false))
          (ap (λ (g : Grammar). step (steps_of g) c.args.self.read b) (sym c.grammar-grammar.ensures.value) ∙ c.in-Some.ensures.some.1) role
          (ap (λ (g : Grammar). grow (notation_of g) c.args.group (Some c.in-Some.role)) (sym c.grammar-grammar.ensures.value)
          ∙ sym c.grow.ensures ∙ c.in-Some-grow.is),
      refl,
    )
