-- A usual syntax is decimal.
use Rattle.lexical_literal.proofs.Common.{ap, sym, ◌∙◌}
use Rattle.lexical_literal.specs.Additions.Scan.{is_usual}
use Rattle.lexical_literal.proofs.FieldLemmas.{decimal_of}
use Rattle.lexical_literal.proofs.syntax.Syntax.is_decimal.Goals as goal

pub returns-clause-radix : goal.returns-clause-radix
returns-clause-radix c usual = decimal_of c.args.self.now (sym (ap is_usual c.self.view_is) ∙ sym c.self.invariant.1 ∙ usual)
