-- Options that fit are not 0, and a syntax has no conditions yet.
use Rattle.lexical_literal.proofs.Common.{Some, ap, subst, sym, ℕ, ◌∙◌, ◌≡◌}
use Rattle.lexical_util.specs.Options.{OptionsFit}
use Rattle.lexical_literal.specs.Additions.Fields.{options_if}
use Rattle.lexical_literal.specs.Notation.{no_conditions}
use Rattle.lexical_literal.specs.Syntax.{IsSyntax}
use Rattle.lexical_literal.specs.Worded.{Worded}
use Rattle.lexical_util.specs.NormalForm.{IsNormal}
use Rattle.lexical_util.specs.Rules.{Lawful}
use Rattle.lexical_literal.proofs.FieldLemmas.{none_contradicted, none_zero, some_options}
use Rattle.lexical_literal.proofs.syntax.Syntax.new.Goals as goal

abbrev syntax_of : ℕ → ℕ → ℕ → Worded
syntax_of w e p = record { word = w; options = Some (record { exponent = e; point = p }); conditions = no_conditions }

module _ (w v e p : ℕ) (g : Worded) (same : w ≡ v) (fit : OptionsFit v e p)
    (is : g ≡ record { word = w; options = options_if e p; conditions = no_conditions }) where
  grammar_is : g ≡ syntax_of v e p
  grammar_is = is ∙ (λ i. record { word = same i; options = some_options e p (none_zero v e p fit) i; conditions = no_conditions })

  is_syntax : Lawful v → IsNormal v → IsSyntax g
  is_syntax lawful normal = subst IsSyntax (sym grammar_is) (record { lawful = lawful; normal = normal; fit = fit; conditions = none_contradicted _ })

pub new-requires-clause-options : goal.new-requires-clause-options
new-requires-clause-options c is = absurd (none_zero _ _ _ c.in-Ok.ensures.accepted.0 is)

pub syntax-requires : goal.syntax-requires
syntax-requires c = is_syntax c.word.result c.normal_form-normal.result c.args.exponent c.args.point c.new.result c.word.ensures.word
    c.in-Ok.ensures.accepted.0 c.new.ensures c.word.ensures.lawful c.normal_form-normal.ensures.normal

pub returns-in-Ok-clause-accepted : goal.returns-in-Ok-clause-accepted
returns-in-Ok-clause-accepted c =
    let word = c.normal_form-normal.ensures.word in (
      subst (λ w. OptionsFit w c.args.exponent c.args.point) word c.in-Ok.ensures.accepted.0,
      c.syntax.ensures ∙ grammar_is c.word.result c.normal_form-normal.result c.args.exponent c.args.point c.new.result c.word.ensures.word
          c.in-Ok.ensures.accepted.0 c.new.ensures ∙ ap (λ w. syntax_of w c.args.exponent c.args.point) word,
    )

pub returns-in-Err-clause-error : goal.returns-in-Err-clause-error
returns-in-Err-clause-error c = rw (← c.normal_form-normal.ensures.word) c.in-Err.ensures.error
