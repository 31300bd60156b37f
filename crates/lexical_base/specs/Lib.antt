pub mod Ascii
pub mod Digits
pub mod Outcomes
pub mod OutcomeOrder
pub mod Private
