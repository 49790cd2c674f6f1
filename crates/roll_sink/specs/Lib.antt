pub mod Rolls
pub mod States
pub mod Parts
pub mod Runs
