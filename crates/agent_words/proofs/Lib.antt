pub mod Fronts
pub mod Steps
pub mod Commands
pub mod Unique
pub mod Channels
