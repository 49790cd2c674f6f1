pub mod Names
pub mod Sinks
mod Limits
mod Once
