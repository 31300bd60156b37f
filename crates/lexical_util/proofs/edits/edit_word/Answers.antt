use Rattle.std.proofs.Common.{◌∙◌, sym, ap}
use Rattle.lexical_flags.specs.Record.{pack}
use Rattle.lexical_builder.specs.Writes.{after}
use Rattle.lexical_util.specs.Edits.{all_writes}
use Rattle.lexical_util.proofs.EditLemmas.{edited-only, edited-same}
use Rattle.lexical_util.proofs.edits.edit_word.Goals as goal

pub returns-clause-word : goal.returns-clause-word
returns-clause-word c = c.build_unchecked.ensures.word
    ∙ ap pack (c.apply_all.ensures.fields ∙ ap (λ r. after r (all_writes c.args.edits.now)) c.rebuild.ensures)

pub returns-clause-unique : goal.returns-clause-unique
returns-clause-unique c other fits clean same = edited-only c.args.format _ c.apply_all.ensures.legal other fits clean same ∙ sym (returns-clause-word c)

pub returns-clause-same_writes : goal.returns-clause-same_writes
returns-clause-same_writes c others legal same = edited-same c.args.format others _ same ∙ sym (returns-clause-word c)
