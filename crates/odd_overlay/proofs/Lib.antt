pub mod Laid
pub mod Ordered
mod Taking
mod WordEntries
