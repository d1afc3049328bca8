pub mod Denoted
pub mod FormedNames
pub mod Plain
pub mod Printable
pub mod Shapes
pub mod Shown
pub mod ShownBodies
pub mod ShownTypes
