pub mod Allowed
pub mod Formed
pub mod Marked
