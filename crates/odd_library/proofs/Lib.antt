pub mod ClassesSaid
pub mod Formed
pub mod FormedMembers
pub mod Marks
pub mod OffenceOrder
