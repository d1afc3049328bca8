pub mod Chars
pub mod Machine
pub mod Making
pub mod Searched
pub mod Spans
pub mod Staying
pub mod Times
