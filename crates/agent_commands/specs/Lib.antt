pub mod Handled
pub mod Session
pub mod Stored
pub mod Trails
pub mod Puts
pub mod Piped
pub mod Checked
pub mod Loads
