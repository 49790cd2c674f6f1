pub mod Histories
pub mod Moves
pub mod Shares
pub mod Making
