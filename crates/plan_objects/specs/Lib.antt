pub mod Asks
pub mod Handed
pub mod Named
