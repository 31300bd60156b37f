pub mod Fields
pub mod Step
pub mod Scan
pub mod Literal
pub mod Stop
pub mod Causes
pub mod GroupSize
pub mod Explained
