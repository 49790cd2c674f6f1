pub mod Over
pub mod Leaving
pub mod Listening
