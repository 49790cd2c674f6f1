pub mod Looks
pub mod View
pub mod Ends
