pub mod Feed
pub mod Lines
pub mod Pieces
pub mod Replies
pub mod Judged
pub mod Into
pub mod Sessions
pub mod Parts
