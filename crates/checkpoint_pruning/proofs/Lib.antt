pub mod Keeping
pub mod Removing
