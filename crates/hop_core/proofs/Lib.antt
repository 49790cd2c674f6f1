pub mod Live
pub mod Machines
pub mod Shares
pub mod Nodes
pub mod Reopens
pub mod Passing
pub mod Starts
pub mod Worlds
