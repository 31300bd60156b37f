-- The form goes up to the bound at most.
use Rattle.lexical_forms.proofs.Common.{arith, nat_tests}
use Rattle.lexical_forms.proofs.form.Form.is_behind.Goals as goal

pub returns-in-Err-clause-low : goal.returns-in-Err-clause-low
returns-in-Err-clause-low c = λ is n reaches. let low = c.in-Err.ensures.passed.low n reaches in grind (arith, nat_tests)

pub returns-in-Err-clause-within : goal.returns-in-Err-clause-within
returns-in-Err-clause-within c = λ is more past inside. c.in-Err.ensures.passed.within more (grind (arith, nat_tests)) inside
