pub mod Splitting
pub mod Picking
mod Placing
pub mod Limits
