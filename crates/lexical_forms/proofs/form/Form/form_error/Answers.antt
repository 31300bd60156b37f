-- The opening is not there, or the syntax refuses what is behind it.
use Rattle.lexical_forms.proofs.Common.{arith, refl}
use Rattle.lexical_forms.proofs.BehindLemmas.{before_of, lacks_opening, part_error, part_refused, part_stopped}
use Rattle.lexical_forms.proofs.form.Form.form_error.Goals as goal

pub lacks_opening-requires : goal.lacks_opening-requires
lacks_opening-requires c =
    lacks_opening c.args.self.now c.args.text.now c.args.stop c.requires.0
    (before_of c.args.self.now c.args.text.now c.args.stop c.requires (omega (arith, c.if-stop-opened.true, c.size-opened.ensures)))

pub error_of-requires-clause-stopped : goal.error_of-requires-clause-stopped
error_of-requires-clause-stopped c = part_stopped c.args.self.now c.args.text.now c.args.stop c.at.result c.split_at.result.1.now c.requires
    (omega (arith, c.if-stop-opened.false, c.size-opened.ensures)) c.size-opened.result c.size-opened.ensures c.at.ensures c.split_at.ensures.back

pub error_of-requires-clause-refused : goal.error_of-requires-clause-refused
error_of-requires-clause-refused c = part_refused c.args.self.now c.args.text.now c.args.stop c.at.result c.split_at.result.1.now c.requires
    (omega (arith, c.if-stop-opened.false, c.size-opened.ensures)) c.size-opened.result c.size-opened.ensures c.at.ensures c.split_at.ensures.back

pub returns-clause-error : goal.returns-clause-error
returns-clause-error c = record {
  name = refl;
  refusal = part_error c.args.self.now c.args.text.now c.args.stop c.at.result c.split_at.result.1.now c.requires
      (omega (arith, c.if-stop-opened.false, c.size-opened.ensures)) c.size-opened.result c.size-opened.ensures c.at.ensures c.split_at.ensures.back
      c.error_of.result.refusal c.error_of.ensures;
  unopened = tt;
}
