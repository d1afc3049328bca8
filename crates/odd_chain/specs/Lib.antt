pub mod Base
pub mod Files
pub mod Offences
pub mod Order
pub mod Reading
