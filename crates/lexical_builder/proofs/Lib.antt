mod Common
mod ChangeLemmas
pub mod OptionByteLemmas
pub mod WriteLemmas
pub mod BuilderFlags
mod RadixLemmas
mod UpperHalf
