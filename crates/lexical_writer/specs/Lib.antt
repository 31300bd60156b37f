pub mod Digits
pub mod Layout
pub mod Conversion
pub mod Buffer
pub mod Choice
pub mod Amount
pub mod Private
