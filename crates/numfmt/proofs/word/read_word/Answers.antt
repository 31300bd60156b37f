-- The result is `Some` if and only if the test of the text is true.
use Rattle.std.proofs.Common.{ℕ, Bool, true, false, IsTrue, true≢false, refl, subst, sym, ◌∙◌}
use Rattle.std.specs.Bool.{then_some}
use Rattle.std.specs.Option.{SomeIff}
use Rattle.lexical_util.specs.Additions.WordText.{IsWordText, hex, is_word_text}
use Rattle.numfmt.proofs.word.read_word.Goals as goal

if_true : (test : Bool) (value : ℕ) → SomeIff (then_some test value) (IsTrue test) value
if_true true value = (refl, refl)
if_true false value = λ holds. true≢false (sym holds)

pub returns : goal.returns
returns c =
    let text = c.args.text.now in
    subst (λ read. SomeIff read (IsWordText text) (hex text)) (sym (c.ok.ensures.value ∙ c.parse_word.ensures.word))
    (if_true (is_word_text text) (hex text))
