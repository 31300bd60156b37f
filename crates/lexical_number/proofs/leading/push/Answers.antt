-- A digit is kept or cut off.
use Rattle.lexical_number.proofs.Common.{arith, refl}
use Rattle.lexical_number.proofs.LeadingLemmas.{keep, drop_digit}
use Rattle.lexical_number.proofs.leading.push.Goals as goal

pub returns-then-leading-clause-value : goal.returns-then-leading-clause-value
returns-then-leading-clause-value c n l = keep l c.args.digit c.requires.digit (omega arith)

pub returns-clause-value : goal.returns-clause-value
returns-clause-value c n l = drop_digit l c.args.digit _ c.requires.digit (omega arith) refl
