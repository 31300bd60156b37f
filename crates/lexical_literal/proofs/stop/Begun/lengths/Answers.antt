-- A text with a byte that is refused is no literal.
use Rattle.lexical_literal.proofs.Common.{arith}
use Rattle.lexical_literal.proofs.StoppedLemmas.{none_whole}
use Rattle.lexical_literal.proofs.stop.Begun.lengths.Goals as goal

pub returns-then-self-clause-none : goal.returns-then-self-clause-none
returns-then-self-clause-none c = λ _. let stop = c.requires.refused c.if-self.true in none_whole _ _ _ stop.1 (λ all. absurd (omega (arith, all, stop.0)))
