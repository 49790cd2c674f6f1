pub mod Events
pub mod Calls
pub mod Runs
pub mod Parts
pub mod Counted
pub mod States
