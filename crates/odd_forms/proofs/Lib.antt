pub mod Alike
pub mod Children
pub mod Colon
pub mod Forms
pub mod Listed
pub mod Numerals
pub mod Values
