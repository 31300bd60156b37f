-- The lemmas of lower crates that proofs on edits and normal forms cite, passed on from one place. Declares nothing.
pub use Rattle.lexical_flags.proofs.ByteParts.{start}
pub use Rattle.lexical_flags.proofs.CommonLemmas.{common-bit_and}
pub use Rattle.lexical_flags.proofs.FlagBits.{flag_by_mask, mask_test}
pub use Rattle.lexical_flags.proofs.Masks.{and_all, ascends}
pub use Rattle.lexical_flags.proofs.Packing.{HasBytes-fill, HasBytes-raw, kept_same, pack-clean, pack-lt, pack-raw, raw-injective, raw-pack, trimmed_unused}
pub use Rattle.lexical_flags.proofs.RecordLemmas.{record_same}
pub use Rattle.lexical_builder.proofs.OptionByteLemmas.{byte_of_option_back}
pub use Rattle.lexical_builder.proofs.WriteLemmas.{after_none, after-append, after-same, HasBytes-after, HasBytes-new, left_by, left_by-cons}
