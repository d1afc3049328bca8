pub mod Attributes
pub mod Formed
pub mod Giving
pub mod Values
