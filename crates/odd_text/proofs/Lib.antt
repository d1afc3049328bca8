pub mod Entries
pub mod InList
pub mod Least
pub mod Rise
pub mod SetOf
