mod Backing
pub mod Ordering
mod Opening
mod Boxing
mod Ending
mod Listening
pub mod Dialing
pub mod Placing
pub mod Zips
mod Telling
