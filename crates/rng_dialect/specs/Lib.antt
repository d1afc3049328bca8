pub mod Class
pub mod ClassReading
pub mod Dialect
pub mod Keeping
pub mod Kept
pub mod Matching
pub mod Reading
