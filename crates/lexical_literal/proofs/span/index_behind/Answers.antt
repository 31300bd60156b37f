-- One byte less.
use Rattle.lexical_literal.proofs.Common.{arith, kind_set, length, notation_of, sym, ◌-◌, ◌∙◌}
use Rattle.lexical_literal.proofs.SpanLemmas.{behind_last}
use Rattle.lexical_literal.proofs.span.index_behind.Goals as goal

pub returns-then-is_kind : goal.returns-then-is_kind
returns-then-is_kind c =
    let text = c.loop-front.front.now in
    let now = behind_last (kind_set (notation_of c.args.grammar) c.args.kind) text (length text - 1) (omega arith) in
    let inv = c.loop-front.invariant in let is = sym c.is_kind.ensures ∙ c.if-is_kind.true in grind arith

pub loop-front-preserved : goal.loop-front-preserved
loop-front-preserved c =
    let text = c.loop-front.front.now in
    let now = behind_last (kind_set (notation_of c.args.grammar) c.args.kind) text (length text - 1) (omega arith) in
    let inv = c.loop-front.invariant in let is = sym c.is_kind.ensures ∙ c.if-is_kind.false in grind arith
