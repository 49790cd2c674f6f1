pub mod Closings
pub mod Several
