pub mod Attributes
pub mod Components
pub mod Contents
pub mod Saying
