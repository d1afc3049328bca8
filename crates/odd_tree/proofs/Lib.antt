pub mod Fits
pub mod InTree
pub mod LastBound
pub mod PrintedTrees
