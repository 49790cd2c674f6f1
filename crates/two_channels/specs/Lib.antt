pub mod Ports
pub mod Shares
