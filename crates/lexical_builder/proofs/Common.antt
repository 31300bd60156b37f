-- The names that most proofs of this crate cite, passed on from one place. Declares nothing.
pub use Rattle.std.proofs.Common.{Bool, [], ap, arith, bit_and, bit_or, false, if◌then◌else◌, inl, inr, length, refl, subst, sum_by, sym, true, ℕ, ◌%◌, ◌*◌}
pub use Rattle.std.proofs.Common.{◌+◌, ◌-◌, ◌/◌, ◌<◌, ◌==◌, ◌^◌, ◌↔◌, ◌∙◌, ◌∷◌, ◌≡◌}
pub use Rattle.std.proofs.lemmas.Bool.Decides.{nat_tests}
pub use Rattle.std.proofs.lemmas.Nat.{or_comm, or_lt, or_shifted, pow_pos}
pub use Rattle.lexical_builder.specs.BuilderBits.{builder_bit, builder_record}
pub use Rattle.lexical_builder.specs.Private.{flags_in}
pub use Rattle.lexical_builder.specs.Writes.{flags_with, write_flags}
pub use Rattle.lexical_flags.proofs.Packing.{pack-clean, raw-pack, trim-same}
pub use Rattle.lexical_flags.proofs.RecordLemmas.{bytes_same, record_same}
pub use Rattle.lexical_flags.proofs.RuleFieldLemmas.{FieldsMeet}
pub use Rattle.lexical_flags.specs.Layout.{Byte, Flag, bit, flags, part, shift}
pub use Rattle.lexical_flags.specs.Record.{HasBytes, Record, effective, flag_bits, pack, raw, trim}
pub use Rattle.lexical_flags.specs.Rules.{IsRadix, shape_of}
pub use Rattle.lexical_flags.specs.declared.format_flags.rule.Rule.{Rule}
