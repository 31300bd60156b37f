-- Where the last byte is neither a separator nor a sign, all of the text is before the first separators at its end.
use Rattle.lexical_literal.proofs.Common.{arith, kind_set, length, notation_of, sym, ◌-◌, ◌∙◌}
use Rattle.lexical_literal.specs.declared.span.ByteKind.TheVariants as kinds
use Rattle.lexical_literal.proofs.SpanLemmas.{behind_last}
use Rattle.lexical_literal.proofs.span.body_ends.Goals as goal

pub returns-in-len1-up-clause-exponent : goal.returns-in-len1-up-clause-exponent
returns-in-len1-up-clause-exponent c =
    let text = c.args.front.now in
    let is = sym c.is_kind.ensures ∙ c.if-is_kind.true in
    let body = behind_last (kind_set (notation_of c.args.grammar) kinds.Body) text (length text - 1) (omega arith) in grind arith

pub returns-in-len1-up-clause-run : goal.returns-in-len1-up-clause-run
returns-in-len1-up-clause-run c =
    let text = c.args.front.now in
    let is = sym c.is_kind.ensures ∙ c.if-is_kind.true in
    let other = behind_last (kind_set (notation_of c.args.grammar) kinds.NotSeparator) text (length text - 1) (omega arith) in grind arith
