pub mod After
pub mod Choosing
pub mod Index
pub mod Layering
pub mod Offences
pub mod Swept
