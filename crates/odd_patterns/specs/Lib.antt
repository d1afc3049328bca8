pub mod Children
pub mod Pieces
pub mod Words
