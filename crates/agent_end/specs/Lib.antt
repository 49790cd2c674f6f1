pub mod Drains
pub mod Statuses
pub mod Writes
