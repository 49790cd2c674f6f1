pub mod Counting
pub mod Passes
pub mod Calls
pub mod Holding
pub mod Durables
pub mod Ports
pub mod Kinds
