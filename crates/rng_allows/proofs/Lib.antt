pub mod MadeItems
pub mod Marks
pub mod Rows
pub mod Texts
pub mod WordTexts
