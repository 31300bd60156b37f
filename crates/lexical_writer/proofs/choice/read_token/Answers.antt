-- The token is the text, and worth the number.
use Rattle.lexical_writer.proofs.Common.{Bool, arith, bytes_decides, length, nat_tests, nil_from_length, subst, sym, true, ℕ, ◌==◌, ◌∙◌, ◌≡◌}
use Rattle.lexical_forms.specs.Token.{IsReadByTokens}
use Rattle.lexical_writer.proofs.choice.read_token.Goals as goal

-- What is empty has no bytes.
is_none : (n : ℕ) (empty : Bool) → empty ≡ (n == 0) → empty ≡ true → n ≡ 0
is_none n empty is holds = grind (arith, nat_tests)

pub returns-then-is_worth-clause-value : goal.returns-then-is_worth-clause-value
returns-then-is_worth-clause-value g c grammar l =
    let token = c.in-Ok.token in (
      token,
      subst (IsReadByTokens c.args.forms.now c.args.forms.now.tokens c.args.text.now) c.in-Ok.is c.token.ensures,
      (bytes_decides token.suffix.now c.args.word.now).0 (sym c.eq-same.ensures ∙ c.if-not-same.false),
      nil_from_length token.rest.now (is_none (length token.rest.now) c.is_empty.result c.is_empty.ensures c.if-not-is_empty.false),
      c.is_worth.ensures.worth c.if-is_worth.true grammar l,
    )
