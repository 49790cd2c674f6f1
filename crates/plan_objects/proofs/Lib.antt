mod Names
pub mod Taking
mod Claiming
