use Rattle.lexical_util.proofs.WordTextLemmas.{HasWritten}
use Rattle.lexical_util.proofs.word_text.word_text.Given as goal

abbrev pub invariant-loop-count : goal.invariant-loop-count
invariant-loop-count l = HasWritten l.word l.rest l.count l.text
