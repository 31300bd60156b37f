pub mod Opening
pub mod Specials
pub mod Suffix
pub mod FormList
pub mod Forms
pub mod Token
pub mod Additions
