mod Rooms
mod Sparing
pub mod Keeping
mod Turning
pub mod Porting
mod Mending
mod Durables
