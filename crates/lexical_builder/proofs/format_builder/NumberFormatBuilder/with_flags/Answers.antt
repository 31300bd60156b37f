use Rattle.std.proofs.lemmas.Bool.Decides.{nat_tests}
use Rattle.lexical_builder.proofs.Common.{arith, length, part, bit, flags, record_same, builder_bit, builder_record, flags_with, write_flags}
use Rattle.lexical_builder.proofs.BuilderFlags.{builder_bit-lt, part-flags_in}
use Rattle.lexical_builder.proofs.WriteLemmas.{after-mask, after-mask_byte}
use Rattle.lexical_builder.proofs.format_builder.NumberFormatBuilder.with_flags.Goals as goal

pub returns : goal.returns
returns c = grind (arith, nat_tests, builder_record, part, builder_bit, bit, part-flags_in, record_same, builder_bit-lt, after-mask, after-mask_byte, flags_with, write_flags)

pub invariant_of-self : goal.invariant_of-self
invariant_of-self c = c.replace_bits.ensures.below (length flags) c.self.invariant (omega arith)
