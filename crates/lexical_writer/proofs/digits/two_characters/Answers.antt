use Rattle.lexical_writer.proofs.Common.{Some, ap, arith, digit_characters, refl, slice_index_or, sym, ◌%◌, ◌/◌, ◌∙◌}
use Rattle.lexical_base.proofs.ValueLemmas.{digit_character-get, same_at}
use Rattle.lexical_writer.specs.declared.digits.TheConstants.{ONES, TENS}
use Rattle.lexical_writer.proofs.digits.two_characters.Goals as goal

pub returns : goal.returns
returns c = record {
  tens = digit_character-get (c.args.pair / 10) (omega (arith, c.requires)) ∙ sym (ap Some (same_at (λ k. slice_index_or TENS k 0)
      (λ k. slice_index_or digit_characters (k / 10) 0) 100 c.args.pair refl c.requires));
  ones = digit_character-get (c.args.pair % 10) (omega arith) ∙ sym (ap Some (same_at (λ k. slice_index_or ONES k 0)
      (λ k. slice_index_or digit_characters (k % 10) 0) 100 c.args.pair refl c.requires));
}
