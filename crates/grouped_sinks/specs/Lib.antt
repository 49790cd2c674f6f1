pub mod Runners
pub mod Splits
pub mod Rows
pub mod Frames
pub mod Picks
