pub mod Bytes
pub mod Walk
pub mod Laws
pub mod OneFeed
pub mod Stream
mod Ending
