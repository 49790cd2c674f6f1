pub mod Listing
pub mod Saying
pub mod Righting
pub mod Starting
pub mod Lowest
