pub mod AtEnd
pub mod Choosing
pub mod Complete
pub mod Holding
pub mod Listing
pub mod Living
pub mod Naming
pub mod Opening
mod Parts
pub mod Sound
pub mod Stepping
pub mod Tabled
pub mod Taking
pub mod Unique
