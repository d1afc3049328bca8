pub mod Code
pub mod Left
pub mod Memory
pub mod Pattern
pub mod Pool
