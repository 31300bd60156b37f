-- After the loop, the bytes of the text are followed by those of the words.
use Rattle.std.proofs.Common.{rules, ◌≡◌, ◌≤◌, ◌+◌, ◌++◌, length, take, ℕ, List, sym, subst, arith}
use Rattle.std.specs.Str.{IsUtf8}
use Rattle.std.proofs.lemmas.List.{take_all}
use Rattle.std.proofs.lemmas.Str.{IsUtf8-append}
use Rattle.lexical_base.proofs.short_text.ShortText.put.Goals as goal

appended : (start end : ℕ) (bytes front words : List ℕ) → take (start + end) bytes ≡ front ++ take end words → length words ≤ end → end ≤ length words
    → take (start + length words) bytes ≡ front ++ words
appended start end bytes front words is passed within = search (rules, take_all)

pub invariant_of-self : goal.invariant_of-self
invariant_of-self c =
    let loop = c.loop-index.invariant in (
      omega (arith, c.if-words-start.false, c.self.invariant.0),
      subst IsUtf8 (sym (appended _ _ _ _ _ loop.0 c.loop-index-test.false loop.1)) (IsUtf8-append _ _ c.self.invariant.1 c.utf8.words),
    )
