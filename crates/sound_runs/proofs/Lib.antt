pub mod Fairly
pub mod Homely
pub mod Undisturbed
pub mod Soundly
pub mod Sounding
