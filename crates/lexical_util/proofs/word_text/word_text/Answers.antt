-- After 32 digits, the text is the printed text. The other clauses are lemmas on printed texts.
use Rattle.std.proofs.Common.{rules, ◌%◌, Ok, Err, cond, ◌∙◌, sym, ap, subst}
use Rattle.lexical_base.specs.Digits.{digit_characters}
use Rattle.lexical_util.specs.Additions.WordText.{IsPrintedForm, hex, word_error}
use Rattle.std.proofs.lemmas.Option.{get_or_from_slice_get}
use Rattle.lexical_util.proofs.WordTextLemmas.{HasWritten-none, HasWritten-next, printed-written, IsPrintedForm-printed, hex-printed, IsPrintedForm-unique}
use Rattle.lexical_util.proofs.word_text.word_text.Goals as goal

pub loop-count-init : goal.loop-count-init
loop-count-init c = HasWritten-none c.args.word

pub loop-count-preserved : goal.loop-count-preserved
loop-count-preserved c = HasWritten-next _ _ _ _ _ c.loop-count.invariant c.loop-count-test.true
    (sym (get_or_from_slice_get digit_characters (c.loop-count.rest % 16) c.digit_to_char.result 0
    c.digit_to_char.ensures.character))

pub returns-clause-text : goal.returns-clause-text
returns-clause-text c = search (rules, printed-written)

pub returns-clause-form : goal.returns-clause-form
returns-clause-form c = subst IsPrintedForm (sym (returns-clause-text c)) (IsPrintedForm-printed c.args.word)

pub returns-clause-value : goal.returns-clause-value
returns-clause-value c = ap hex (returns-clause-text c) ∙ hex-printed c.args.word c.ranges.word.fits

pub returns-clause-read_back : goal.returns-clause-read_back
returns-clause-read_back c = IsPrintedForm.word (returns-clause-form c)

pub returns-clause-parsed : goal.returns-clause-parsed
returns-clause-parsed c = (λ i. cond (returns-clause-read_back c i) (Ok (returns-clause-value c i)) (Err (word_error c.loop-count.text)))

pub returns-clause-unique : goal.returns-clause-unique
returns-clause-unique c text form same = IsPrintedForm-unique _ _ form (returns-clause-form c) (same ∙ sym (returns-clause-value c))
