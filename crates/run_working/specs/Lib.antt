pub mod Opened
pub mod Ends
pub mod Runs
pub mod Histories
pub mod Wholes
