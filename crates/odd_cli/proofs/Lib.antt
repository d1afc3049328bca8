pub mod Answering
pub mod Coming
pub mod Commands
pub mod OneReply
pub mod Reordered
pub mod Saying
pub mod Serving
