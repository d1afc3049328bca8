pub mod EditsSaid
pub mod Formed
pub mod FormedReading
pub mod ReadLists
