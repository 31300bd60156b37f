use Rattle.lexical_forms.proofs.Common.{drop, length, notation_of, ◌-◌}
use Rattle.lexical_forms.proofs.SpecialLemmas.{HasRead}
use Rattle.lexical_forms.proofs.specials.is_spelled.Given as goal

abbrev pub invariant-loop-index : goal.invariant-loop-index
invariant-loop-index l = HasRead (notation_of l.grammar) l.separator l.word l.text l.taken l.letters (drop l.index l.text)

abbrev pub decreases-loop-index : goal.decreases-loop-index
decreases-loop-index l = length l.text - l.index
