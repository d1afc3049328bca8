pub mod Base
pub mod Note
pub mod Order
pub mod Outcome
pub mod Reading
pub mod Reply
pub mod Running
pub mod Words
