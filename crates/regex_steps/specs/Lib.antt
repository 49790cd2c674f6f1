pub mod Search
pub mod Dates
pub mod Extract
pub mod Steps
