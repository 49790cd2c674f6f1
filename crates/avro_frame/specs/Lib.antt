pub mod Pack
pub mod Feed
pub mod Pending
pub mod Stream
