pub mod Reading
pub mod Recovers
pub mod Laws
