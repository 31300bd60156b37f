-- Equivalent words have the same normal form, and it is lawful if one of these words is lawful.
use Rattle.std.proofs.Common.{ℕ, Ok, Err, Result, IfOk, IsErr, sym, subst}
use Rattle.std.proofs.lemmas.Bool.{false≢true}
use Rattle.std.proofs.lemmas.Result.{IsErr-from_ok_iff, Ok-from_Ok_iff}
use Rattle.std.specs.Result.{OkIff}
use Rattle.lexical_util.specs.NormalForm.{normal_form_of}
use Rattle.lexical_util.specs.Rules.{Lawful}
use Rattle.lexical_util.specs.declared.error.Error.{Error}
use Rattle.callers.proofs.keep.keep.Goals as goal

lawful_if_ok : (r : Result ℕ Error) (word : ℕ) → OkIff r (Lawful word) word → IfOk r Lawful
lawful_if_ok (Ok kept) word (lawful, is) = subst Lawful (sym is) lawful
lawful_if_ok (Err e) word _ = tt

pub returns-clause-lawful : goal.returns-clause-lawful
returns-clause-lawful c = lawful_if_ok c.migrate.result (normal_form_of c.args.word) c.migrate.ensures.lawful

pub returns-clause-one : goal.returns-clause-one
returns-clause-one c other same = sym ((c.normal_form_facts.ensures.equal c.args.word other).1 same)

pub returns-clause-refused : goal.returns-clause-refused
returns-clause-refused c = (
  λ err other same lawful.
      let kept = c.normal_form_facts.ensures.lawful_same c.args.word other same lawful in
      false≢true (subst IsErr (Ok-from_Ok_iff _ _ _ c.migrate.ensures.lawful kept) err),
  λ none. IsErr-from_ok_iff _ _ _ c.migrate.ensures.lawful (none _ (c.normal_form_facts.ensures.same c.args.word)),
)
