pub mod Adding
pub mod Graph
pub mod Marking
pub mod Ordering
pub mod Passing
pub mod Placing
pub mod Walking
