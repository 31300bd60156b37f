-- A separator, the case of a letter, or a byte.
use Rattle.lexical_literal.proofs.Common.{Blame, Bool, Group, Notation, Option, Some, Summary, ap, bare, blame, cases, false, goes, group_at, if◌then◌else◌}
use Rattle.lexical_literal.proofs.Common.{mask_of, notation_of, otherwise, part_of, place_of, refl, requirements, role_at, separators, sym, true, ℕ, ◌==◌, ◌∙◌}
use Rattle.lexical_literal.proofs.Common.{◌≡◌}
use Rattle.lexical_literal.specs.declared.cause.ReadErrorKind.TheVariants as causes
use Rattle.lexical_literal.proofs.FieldLemmas.{untested}
use Rattle.lexical_literal.proofs.cause.Spot.blame.Goals as goal

module _ (m : Notation) (s : Summary) (g : Group) (byte : ℕ) where
  -- `by_tests t u` is why the byte cannot follow, if `t` is true of no separators and `u` of no other case.
  abbrev by_tests : Bool → Bool → Blame
  by_tests t u = if t then record { kind = if u then causes.Byte else causes.Case; mask = mask_of (cases m s g byte) } else record {
    kind = causes.Separator (part_of s.stage) (place_of m (part_of s.stage) s.stage s.gap (role_at m (part_of s.stage) byte));
    mask = mask_of (separators m s g (Some byte));
  }

  is_blame : (next : Option ℕ) (t u : Bool) → goes (bare m) s g next ≡ false → next ≡ Some byte → (mask_of (separators m s g (Some byte)) == 0) ≡ t
      → (mask_of (cases m s g byte) == 0) ≡ u → by_tests t u ≡ blame m s g next
  is_blame next t u none is is_t is_u = (λ j. by_tests (sym is_t j) (sym is_u j))
      ∙ (λ j. if sym none j then record { kind = causes.Requirement; mask = requirements m s g next } else otherwise m s g (sym is j))

pub returns-then-separators-ne0 : goal.returns-then-separators-ne0
returns-then-separators-ne0 c =
    let s = c.args.self.now.read in
    let m = notation_of c.args.self.now.grammar in
    let mask = c.separators-separators.ensures ∙ ap (λ next. mask_of (separators m s (group_at c.args.self.now) next)) c.in-Some.is in
    (λ j. record { kind = causes.Separator (c.part_of-then-separators-ne0.ensures j) (c.place.ensures j); mask = mask j })
    ∙ is_blame m s (group_at c.args.self.now) c.in-Some.byte c.args.self.now.byte false _ (sym c.goes_on_bare.ensures ∙ c.if-goes_on_bare.false) c.in-Some.is
    (untested _ 0 (λ zero. c.if-separators-ne0.true (mask ∙ zero))) refl

pub returns-then-mask-eq0 : goal.returns-then-mask-eq0
returns-then-mask-eq0 c =
    let s = c.args.self.now.read in
    let m = notation_of c.args.self.now.grammar in
    let mask = c.separators-separators.ensures ∙ ap (λ next. mask_of (separators m s (group_at c.args.self.now) next)) c.in-Some.is in
    (λ j. record { kind = causes.Byte; mask = c.case_flags-mask.ensures j })
    ∙ is_blame m s (group_at c.args.self.now) c.in-Some.byte c.args.self.now.byte true true (sym c.goes_on_bare.ensures ∙ c.if-goes_on_bare.false) c.in-Some.is
    (ap (λ n. n == 0) (sym mask ∙ c.if-separators-ne0.false)) (ap (λ n. n == 0) (sym c.case_flags-mask.ensures ∙ c.if-mask-eq0.true))

pub returns-else-mask-eq0 : goal.returns-else-mask-eq0
returns-else-mask-eq0 c =
    let s = c.args.self.now.read in
    let m = notation_of c.args.self.now.grammar in
    let mask = c.separators-separators.ensures ∙ ap (λ next. mask_of (separators m s (group_at c.args.self.now) next)) c.in-Some.is in
    (λ j. record { kind = causes.Case; mask = c.case_flags-mask.ensures j })
    ∙ is_blame m s (group_at c.args.self.now) c.in-Some.byte c.args.self.now.byte true false (sym c.goes_on_bare.ensures ∙ c.if-goes_on_bare.false) c.in-Some.is
    (ap (λ n. n == 0) (sym mask ∙ c.if-separators-ne0.false)) (untested _ 0 (λ zero. c.if-mask-eq0.false (c.case_flags-mask.ensures ∙ zero)))
