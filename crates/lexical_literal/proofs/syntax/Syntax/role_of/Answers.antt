-- A byte plays the role that it has in the integer, or else that in the exponent, and no other.
use Rattle.lexical_literal.proofs.Common.{Grammar, HasRoles, IsOnlyRole, None, Option, Role, Some, ap, arith, false, false≢true, notation_of, refl, role_at}
use Rattle.lexical_literal.proofs.Common.{set_of_role, steps_of, sym, true, ℕ, ◌∙◌, ◌≡◌}
use Rattle.lexical_util.specs.declared.feature_format.roles.Role.TheVariants as roles
use Rattle.lexical_util.specs.declared.format_flags.Part.TheVariants as parts
use Rattle.lexical_literal.proofs.RefusalLemmas.{other_roles}
use Rattle.lexical_literal.proofs.WalkLemmas.{as_role, no_role}
use Rattle.lexical_literal.proofs.syntax.Syntax.role_of.Goals as goal

module _ (g : Grammar) (h : HasRoles (notation_of g)) (b : ℕ) where
  only : (o : Option Role) → ((r : Role) → o ≡ Some r → set_of_role (notation_of g) r b ≡ true)
      → (o ≡ None → (r : Role) → set_of_role (notation_of g) r b ≡ false) → IsOnlyRole (notation_of g) b o
  only None found none r = (λ is. absurd (false≢true (sym (none refl r) ∙ is)), found r)
  only (Some role) found none r = (λ is. ap Some (h.one role r b (found role refl) is), found r)

  none : role_at (notation_of g) parts.Integer b ≡ None → role_at (notation_of g) parts.Exponent b ≡ None → (r : Role)
      → set_of_role (notation_of g) r b ≡ false
  none first second roles.Digit = grind arith
  none first second r = no_role (notation_of g) parts.Integer b r (λ same. cc) first

pub returns-in-None : goal.returns-in-None
returns-in-None c =
    let g = c.args.self.now in
    let h = other_roles (steps_of g) (notation_of g).flag (notation_of g).condition c.grammar-grammar.ensures.ready.roles in
    let first : role_at (notation_of g) parts.Integer c.args.byte ≡ None =
    ap (λ (g : Grammar). role_at (notation_of g) parts.Integer c.args.byte) (sym c.grammar-grammar.ensures.value) ∙ sym c.role_at.ensures ∙ c.in-None.is in
    rw (c.role_at-in-None.ensures, c.grammar-grammar.ensures.value) (only g h c.args.byte _
    (as_role (notation_of g) parts.Exponent c.args.byte) (none g h c.args.byte first))

pub returns-in_default : goal.returns-in_default
returns-in_default c =
    let g = c.args.self.now in
    let h = other_roles (steps_of g) (notation_of g).flag (notation_of g).condition c.grammar-grammar.ensures.ready.roles in
    let same = c.role_at.ensures ∙ ap (λ (g : Grammar). role_at (notation_of g) parts.Integer c.args.byte) c.grammar-grammar.ensures.value in
    only g h c.args.byte _ (λ r is. as_role (notation_of g) parts.Integer c.args.byte r (sym same ∙ is))
    (λ is. absurd (c.in_default.not-None is))
