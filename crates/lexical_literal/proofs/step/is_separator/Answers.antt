-- The separator is a field, which is 0 if no flag allows one.
use Rattle.lexical_literal.proofs.Common.{Bool, ap, not, sym, ◌&&◌, ◌==◌, ◌∙◌}
use Rattle.lexical_literal.proofs.FieldLemmas.{separator_is, tested, untested}
use Rattle.lexical_literal.proofs.step.is_separator.Goals as goal

pub returns-then-byte-grammar : goal.returns-then-byte-grammar
returns-then-byte-grammar c = ap (λ (same : Bool). same && not (c.args.byte == 0)) (sym (tested c.args.byte c.grammar.inside.separator c.if-byte-grammar.true))
    ∙ separator_is c.grammar.inside c.args.grammar c.grammar.invariant c.grammar.view_is c.args.byte

pub returns-else-byte-grammar : goal.returns-else-byte-grammar
returns-else-byte-grammar c =
    let other = untested c.args.byte c.grammar.inside.separator c.if-byte-grammar.false in
    other ∙ ap (λ (same : Bool). same && not (c.args.byte == 0)) (sym other)
    ∙ separator_is c.grammar.inside c.args.grammar c.grammar.invariant c.grammar.view_is c.args.byte
