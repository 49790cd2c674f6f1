pub mod Draining
pub mod Settling
