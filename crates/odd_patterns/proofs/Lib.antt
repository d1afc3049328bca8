pub mod Derivatives
pub mod Pieces
