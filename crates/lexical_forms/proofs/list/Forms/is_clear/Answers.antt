-- A byte that is of no word, and none that words of a form have besides.
use Rattle.lexical_forms.proofs.Common.{HasNoWord, ap, arith, false, go_on_with, is_in, slice_get, sym, ◌||◌, ◌∙◌, ◌≡◌}
use Rattle.lexical_forms.proofs.FormLemmas.{no_one}
use Rattle.lexical_forms.proofs.LeadingLemmas.{no_word_of_form}
use Rattle.lexical_forms.proofs.LongestLemmas.{all_tried}
use Rattle.lexical_forms.proofs.list.Forms.is_clear.Goals as goal

pub returns-then-not-has_word_byte : goal.returns-then-not-has_word_byte
returns-then-not-has_word_byte c = λ is.
    let list = c.args.self.now in let t = c.args.tokens.now in let byte = slice_get c.args.text.now c.args.end in
    let off : c.go_on_with.result ≡ false = grind arith in
    let none = no_one (is_in (go_on_with list.forms) byte) (is_in (go_on_with t.forms.now) byte)
    (ap (λ byte. is_in (go_on_with list.forms) byte || is_in (go_on_with t.forms.now) byte) (sym c.byte_at.ensures) ∙ sym c.go_on_with.ensures ∙ off) in
    let word = sym c.if-not-has_word_byte.ensures in
    all_tried (HasNoWord c.args.text.now c.args.end) list t (no_word_of_form list.forms byte word none.0) (no_word_of_form t.forms.now byte word none.1)
