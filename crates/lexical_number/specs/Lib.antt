pub mod Number
pub mod Small
pub mod Float
pub mod Numeral
pub mod Leading
pub mod Nearest
pub mod Shortest
