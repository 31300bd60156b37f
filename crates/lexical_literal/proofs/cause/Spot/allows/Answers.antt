-- The other grammar has the flags of the word.
use Rattle.lexical_literal.proofs.Common.{Bool, Condition, Flag, Group, Notation, Option, Summary, ap, false, goes, group_allows, group_at, has, lets}
use Rattle.lexical_literal.proofs.Common.{notation_of, role_next, sym, true, unsized, with_rules, ℕ, ◌&&◌, ◌∙◌, ◌≡◌}
use Rattle.std.proofs.Common.{rules}
use Rattle.lexical_literal.proofs.FieldLemmas.{other, other_fields, other_flag}
use Rattle.lexical_literal.proofs.cause.Spot.allows.Goals as goal

module _ (m : Notation) (own flag : Flag → Bool) (condition : Condition → Bool) (s : Summary) (group : Group) (next : Option ℕ)
    (same : (f : Flag) → own f ≡ flag f) where
  abbrev steps : Bool
  steps = lets (unsized (with_rules m own condition)) s next

  abbrev groups : Bool
  groups = group_allows (with_rules m own condition) group (role_next m group.part next)

  as_flags : (steps && groups) ≡ goes (with_rules m flag condition) s group next
  as_flags = λ i. goes (with_rules m (λ f. same f i) condition) s group next

  then_goes : (r l : Bool) → l ≡ true → l ≡ steps → r ≡ groups → r ≡ goes (with_rules m flag condition) s group next
  then_goes r l is L R = R ∙ ap (λ t. t && groups) (sym is ∙ L) ∙ as_flags

  else_goes : (l : Bool) → l ≡ false → l ≡ steps → l ≡ goes (with_rules m flag condition) s group next
  else_goes l none L = none ∙ ap (λ t. t && groups) (sym none ∙ L) ∙ as_flags

pub invariant_of-other : goal.invariant_of-other
invariant_of-other c = other_fields c.grammar.inside c.grammar.invariant c.args.word c.args.conditions (search rules)

pub returns-then-goes_on : goal.returns-then-goes_on
returns-then-goes_on c = search (rules, then_goes, notation_of, other, has, group_at, other_flag)

pub returns-else-goes_on : goal.returns-else-goes_on
returns-else-goes_on c = search (rules, else_goes, notation_of, other, has, group_at, other_flag)
