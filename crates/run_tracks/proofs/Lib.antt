pub mod Moving
pub mod Homing
pub mod Tracking
pub mod Telling
pub mod Staying
pub mod Listened
pub mod Dealing
pub mod Handing
mod Closing
pub mod Emptying
mod Stopping
mod Finding
mod Keeping
