-- A suffix is in the word.
use Rattle.lexical_forms.proofs.Common.{Some, arith, nat_tests, ◌≡◌}
use Rattle.lexical_forms.proofs.LeadingLemmas.{suffix_within}
use Rattle.lexical_forms.proofs.suffix.Suffixes.size.Goals as goal

pub returns-then-whole-eq0-clause-size : goal.returns-then-whole-eq0-clause-size
returns-then-whole-eq0-clause-size c =
    let within = suffix_within (Some c.args.self) c.args.float c.args.text.now in let size = c.word_size-whole.ensures.size in
    let zero : c.word_size-whole.result ≡ 0 = (let test = c.if-whole-eq0.true in grind (arith, nat_tests)) in omega (arith, within, size, zero)
