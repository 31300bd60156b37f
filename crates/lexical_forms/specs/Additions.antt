pub mod Forms
pub mod Token
