mod Common
pub mod ByteParts
pub mod RecordLemmas
pub mod Segments
pub mod Packing
pub mod Masks
pub mod FlagBits
pub mod CommonLemmas
pub mod RuleLemmas
pub mod RuleFieldLemmas
pub mod NormalRules
mod DisjointLemmas
pub mod CaseLemmas
mod PunctuationBytes
pub mod RoleLemmas
mod OptionLemmas
pub mod ReservedBits
