-- The list reads the text as the number.
use Rattle.lexical_writer.proofs.Common.{Bool, Grammar, IsSyntax, Read, Reads, and_parts, ap, arith, false, is_float, notation_of, refl, rules, subst, sym}
use Rattle.lexical_writer.proofs.Common.{true, ◌&&◌, ◌==◌, ◌∙◌, ◌≡◌}
use Rattle.lexical_writer.proofs.ChoiceLemmas.{first_reads, none_at, own_read, read_as}
use Rattle.lexical_writer.proofs.choice.read_written.Goals as goal

pub returns-then-index-eq0-clause-value : goal.returns-then-index-eq0-clause-value
returns-then-index-eq0-clause-value g c =
    let (l, reads, has, float) = c.requires.written in
    let form = c.args.form.now in
    let syntax = c.syntax-syntax.ensures in
    let read : Read = record { format = form.syntax.word; literal = l; kind = form.kind; opened = 0 } in
    read_as (g.N.Writable.task c.args.number.now c.args.style) c.args.forms.now form c.args.text.now _ l l read c.args.index syntax refl reads has
    (first_reads c.args.forms.now.forms form c.args.text.now l c.args.index c.requires.form c.if-index-eq0.true c.requires.unopened reads)
    (c.is_plain-plain.ensures.plain c.if-plain.true read (sym c.kind.ensures) (ap (λ (g : Grammar). g.word) (sym syntax)) (sym float))

pub returns-then-plain-form-clause-value : goal.returns-then-plain-form-clause-value
returns-then-plain-form-clause-value g c =
    let (l, reads, has, float) = c.requires.written in
    let form = c.args.form.now in
    let literal = c.in-Some.literal in
    let syntax = c.syntax-syntax.ensures in
    let first = c.in-Some.ensures.some in
    let tests = and_parts _ _ c.if-plain-form.true in
    let by = own_read c.args.forms.now.forms form c.args.text.now c.in-Some.form c.args.index literal tests.1 first c.requires.form c.requires.unopened in
    let lawful : IsSyntax form.syntax = search rules in
    let same = c.literal_facts.ensures.one_reading form.syntax lawful l literal.literal c.args.text.now reads by.2 in
    read_as (g.N.Writable.task c.args.number.now c.args.style) c.args.forms.now form c.args.text.now _ l _ literal c.in-Some.form syntax same reads has first
    (c.is_plain-plain.ensures.plain tests.0 literal (by.1 ∙ sym c.kind.ensures) (by.0 ∙ sym (ap (λ (g : Grammar). g.word) syntax))
    (ap is_float (sym same) ∙ sym float))

pub returns-then-is_read_as-clause-value : goal.returns-then-is_read_as-clause-value
returns-then-is_read_as-clause-value g c =
    let (l, reads, has, float) = c.requires.written in
    let syntax = c.syntax-syntax.ensures in
    let own = c.in-Some-own_literal.own in
    let is = c.in-Some-own_literal.ensures.some in
    let lawful : IsSyntax c.syntax-syntax.result = search rules in
    let same = c.literal_facts.ensures.one_reading c.syntax-syntax.result lawful l own.literal c.args.text.now
    (subst (λ (g : Grammar). Reads (notation_of g) l c.args.text.now) (sym syntax) reads) is.2 in
    read_as (g.N.Writable.task c.args.number.now c.args.style) c.args.forms.now c.args.form.now c.args.text.now _ l own.literal c.in-Some.literal c.in-Some.form
    syntax same reads has c.in-Some.ensures.some (c.is_read_as.ensures.same c.if-is_read_as.true is.0 c.syntax-syntax.result is.1)

and_left : (a b : Bool) → (a && b) ≡ false → b ≡ true → a ≡ false
and_left a b none same = grind arith

-- What holds of both Booleans holds of the one that there is.
by_own : (P : Bool → Type 0) → P false → (own : Bool) → (own ≡ true → P true) → P own
by_own P other own here = grind arith

pub returns-clause-error : goal.returns-clause-error
returns-clause-error g c =
    let (l, reads, has, float) = c.requires.written in
    let form = c.args.form.now in
    let literal = c.in-Some.literal in
    let keeps = (g.N.Writable.task c.args.number.now c.args.style).keeps in
    let first = c.in-Some.ensures.some in
    let other : keeps false literal → ⊥ = c.is_read_as.ensures.kept c.if-is_read_as.false in (
      c.in-Some.form,
      literal,
      first,
      by_own (λ own. keeps own literal → ⊥) other (c.in-Some.form == c.args.index) (λ same kept.
          let by = own_read c.args.forms.now.forms form c.args.text.now c.in-Some.form c.args.index literal same first c.requires.form c.requires.unopened in
          let lawful : IsSyntax form.syntax = search rules in
          let one = c.literal_facts.ensures.one_reading form.syntax lawful l literal.literal c.args.text.now reads by.2 in
          other (c.is_plain-plain.ensures.kept (and_left _ _ c.if-plain-form.false same) literal (by.1 ∙ sym c.kind.ensures)
          (by.0 ∙ sym (ap (λ (g : Grammar). g.word) c.syntax-syntax.ensures)) (ap is_float (sym one) ∙ sym float) kept)),
      c.mismatch.ensures,
    )

pub returns-in_default-clause-error : goal.returns-in_default-clause-error
returns-in_default-clause-error g c =
    let (l, reads, has, float) = c.requires.written in
    absurd (none_at c.args.forms.now.forms c.args.form.now c.args.text.now c.args.index l c.requires.form c.requires.unopened reads
    (c.read_literal.ensures.none c.in_default.is))

pub returns-in_default-own_literal-clause-error : goal.returns-in_default-own_literal-clause-error
returns-in_default-own_literal-clause-error g c =
    let (l, reads, has, float) = c.requires.written in
    absurd (c.own_literal.ensures.none c.in_default-own_literal.is l
    (subst (λ (g : Grammar). Reads (notation_of g) l c.args.text.now) (sym c.syntax-syntax.ensures) reads))
