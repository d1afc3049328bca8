pub mod Digits
pub mod Put
pub mod Rows
