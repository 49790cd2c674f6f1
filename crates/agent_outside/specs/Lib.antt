pub mod Backs
pub mod Sinks
pub mod Ends
pub mod Listening
pub mod Dials
pub mod Names
