mod Common
mod SpecialLemmas
mod ExcludeLemmas
mod StrangerLemmas
mod OpeningLemmas
pub mod BehindLemmas
mod FormLemmas
mod TokenLemmas
mod LeadingLemmas
mod LongestLemmas
mod EndLemmas
mod FactLemmas
