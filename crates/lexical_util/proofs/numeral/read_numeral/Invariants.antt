use Rattle.lexical_util.proofs.NumeralLemmas.{HasRead}
use Rattle.lexical_util.proofs.numeral.read_numeral.Given as goal

abbrev pub invariant-loop-digit : goal.invariant-loop-digit
invariant-loop-digit l = HasRead l.radix l.digits l.digit-index l.number
