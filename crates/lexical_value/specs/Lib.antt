pub mod Value
pub mod Integer
pub mod Float
pub mod Parsed
pub mod Kind
pub mod Scaled
pub mod Private
