-- All tests of roles but that of the prefix are false.
use Rattle.lexical_forms.proofs.Common.{AreFalse, arith, nat_tests, raw, subst, true}
use Rattle.lexical_util.specs.Layout as layout
use Rattle.lexical_util.specs.Roles.{cased}
use Rattle.lexical_literal.proofs.FieldLemmas.{byte_is, exponent_is, point_is}
use Rattle.lexical_forms.proofs.StrangerLemmas.{are_false, no_point, stranger_of}
use Rattle.lexical_forms.proofs.exclude.is_stranger.Goals as goal

pub returns : goal.returns
returns c = λ is.
    let g = c.args.grammar in let byte = c.args.byte in let grammar = c.grammar in
    let suffix_counts = (raw g.word).flag layout.case_sensitive_base_suffix in let exponent_counts = (raw g.word).flag layout.case_sensitive_exponent in
    stranger_of g byte
    (let digit = c.is_digit.ensures in let off = c.if-is_digit.false in grind (arith, nat_tests))
    (let digit = c.is_digit-else-is_digit.ensures in let off = c.if-is_digit-2.false in grind (arith, nat_tests))
    (let off = c.if-byte-eq43.false in grind (arith, nat_tests)) (let off = c.if-byte-eq45.false in grind (arith, nat_tests))
    (subst (λ own. AreFalse (cased true own) byte) (byte_is grammar.inside g grammar.invariant grammar.view_is layout.digit_separator)
    (c.is_apart.ensures c.if-not-is_apart.false true))
    (subst (λ own. AreFalse (cased suffix_counts own) byte) (byte_is grammar.inside g grammar.invariant grammar.view_is layout.base_suffix)
    (c.is_apart-else-not-is_apart.ensures c.if-not-is_apart-2.false suffix_counts))
    (are_false byte (no_point grammar.inside.point) (point_is grammar.inside g grammar.invariant grammar.view_is) (c.is_apart-2.ensures is true))
    (are_false byte (λ _ none. none) (exponent_is grammar.inside g grammar.invariant grammar.view_is)
    (c.is_apart-else-not-is_apart-2.ensures c.if-not-is_apart-3.false exponent_counts))
