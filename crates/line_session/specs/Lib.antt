pub mod Handled
pub mod Sessions
pub mod Parts
