pub mod AlikeDocs
pub mod Pairs
pub mod Reordered
pub mod Reorderings
