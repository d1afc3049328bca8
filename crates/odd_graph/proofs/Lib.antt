pub mod Chains
mod Closing
mod Entering
mod Joining
mod NodesReached
pub mod OneMore
mod Parts
pub mod Placed
mod Taking
mod Tried
mod Walking
