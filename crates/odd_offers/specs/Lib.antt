pub mod Answers
pub mod Names
pub mod Same
pub mod Tables
pub mod Telling
