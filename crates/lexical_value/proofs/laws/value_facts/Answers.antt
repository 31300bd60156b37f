-- On what the value of a literal does not depend.
use Rattle.lexical_value.proofs.Common.{raw}
use Rattle.lexical_literal.specs.Notation.{notation_of}
use Rattle.lexical_value.proofs.KindLemmas.{wraps_by}
use Rattle.lexical_value.proofs.ValueLemmas.{integer_numerator, same_value, same_word}
use Rattle.lexical_value.proofs.laws.value_facts.Goals as goal

pub returns-clause-same_word : goal.returns-clause-same_word
returns-clause-same_word c a b same l = same_word (raw a) (raw b) l ((c.normal_form_facts.ensures.equal a b).0 same)

pub returns-clause-same_digits : goal.returns-clause-same_digits
returns-clause-same_digits c g is l k same =
    let facts = c.byte_facts.ensures in
    same_value (raw g.word) (notation_of g) l k same
    (λ byte below separator. facts.separator g.word byte is.lawful (facts.mantissa_digit g.word byte is.lawful below) separator)
    (λ byte below separator. facts.separator g.word byte is.lawful (facts.exponent_digit g.word byte is.lawful below) separator)

pub returns-clause-numerator : goal.returns-clause-numerator
returns-clause-numerator c g l text reads whole = integer_numerator (notation_of g) (raw g.word) l text reads whole

pub returns-clause-wraps : goal.returns-clause-wraps
returns-clause-wraps c = wraps_by
