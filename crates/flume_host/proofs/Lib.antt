pub mod Telling
pub mod Images
pub mod Moments
pub mod OneFile
pub mod Keeps
pub mod Talking
pub mod Settling
pub mod Folders
