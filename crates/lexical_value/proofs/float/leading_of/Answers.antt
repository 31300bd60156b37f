-- All digits, or the leading ones.
use Rattle.std.proofs.lemmas.Bool.Decides.{nat_tests}
use Rattle.std.proofs.Common.{arith}
use Rattle.lexical_value.proofs.Common.{mantissa, number, number_after}
use Rattle.lexical_number.proofs.LeadingLemmas.{starts}
use Rattle.lexical_number.proofs.DigitLemmas.{number_after-append}
use Rattle.lexical_value.proofs.float.leading_of.Goals as goal

pub returns-in-None-clause-leads : goal.returns-in-None-clause-leads
returns-in-None-clause-leads c = grind (arith, nat_tests, number_after, mantissa, number_after-append, number, starts)
