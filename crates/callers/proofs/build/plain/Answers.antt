use Rattle.callers.proofs.build.plain.Goals as goal

pub returns-clause-fields : goal.returns-clause-fields
returns-clause-fields c = c.change_facts.ensures.no_separator_fields c.args.format _ (cc)
