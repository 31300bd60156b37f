mod Lower
mod EditLemmas
mod NormalLemmas
pub mod ViewLemmas
pub mod ByteRoleLemmas
pub mod ListingLemmas
mod ChangeLemmas
mod ImageLemmas
mod Fewest
mod FieldWrites
mod ReasonLemmas
pub mod NumeralLemmas
mod SettingLemmas
mod WordTextLemmas
