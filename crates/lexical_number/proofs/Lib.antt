mod Common
pub mod SmallLemmas
pub mod DigitLemmas
mod BigLemmas
mod BinaryLemmas
pub mod LeadingLemmas
mod NearLemmas
mod PowersLemmas
pub mod ScalingLemmas
mod TenLemmas
mod FareyLemmas
mod RowLemmas
pub mod ReadLemmas
pub mod ShortestLemmas
