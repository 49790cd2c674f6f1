pub mod Undisturbed
pub mod Limits
pub mod Sound
pub mod Laws
pub mod Links
