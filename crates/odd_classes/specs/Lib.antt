pub mod Checking
pub mod DataFacts
pub mod Inheriting
pub mod Leading
pub mod Listing
pub mod Offered
pub mod Placing
pub mod Ranking
