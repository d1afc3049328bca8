pub mod Escaped
pub mod PrintedCharacters
pub mod PrintedElements
pub mod PrintedPrefixes
pub mod PrintedSpelled
pub mod PrintedTags
pub mod Shapes
