-- What is true of every literal of a syntax.
use Rattle.lexical_literal.proofs.Common.{[], first_group, notation_of, refl, start}
use Rattle.lexical_literal.proofs.FitLemmas.{front_of}
use Rattle.lexical_literal.proofs.StoppedLemmas.{one_sized_reading}
use Rattle.lexical_literal.proofs.PartLemmas.{parts_have_roles}
use Rattle.lexical_literal.proofs.RoleLemmas.{has_sizes_of, ready}
use Rattle.lexical_literal.proofs.SameLemmas.{same_notation}
use Rattle.lexical_literal.proofs.WriterLemmas.{digits_read, negative_read}
use Rattle.lexical_literal.proofs.laws.literal_facts.Goals as goal

pub returns-clause-one_reading : goal.returns-clause-one_reading
returns-clause-one_reading c g is l k text first second =
    one_sized_reading (notation_of g) (ready c.role_facts.ensures.disjoint c.role_facts.ensures.five c.role_facts.ensures.lawful g is)
    (has_sizes_of g is) text l k first second

pub returns-clause-some : goal.returns-clause-some
returns-clause-some c g is = front_of (notation_of g) (ready c.role_facts.ensures.disjoint c.role_facts.ensures.five c.role_facts.ensures.lawful g is)
    (has_sizes_of g is) [] start first_group refl refl

pub returns-clause-same_literals : goal.returns-clause-same_literals
returns-clause-same_literals c a b same options conditions l text reads =
    rw (← same_notation a b options conditions ((c.normal_form_facts.ensures.equal a b).0 same)) reads

pub returns-clause-roles : goal.returns-clause-roles
returns-clause-roles c g l text reads = parts_have_roles (notation_of g) l reads.literal.spelled

pub returns-clause-digits : goal.returns-clause-digits
returns-clause-digits c g is first digits not_zero all =
    digits_read _ (ready c.role_facts.ensures.disjoint c.role_facts.ensures.five c.role_facts.ensures.lawful g is) (has_sizes_of g is)
    first digits not_zero all

pub returns-clause-negative : goal.returns-clause-negative
returns-clause-negative c g is first digits not_zero all =
    negative_read _ (ready c.role_facts.ensures.disjoint c.role_facts.ensures.five c.role_facts.ensures.lawful g is) (has_sizes_of g is)
    first digits not_zero all
