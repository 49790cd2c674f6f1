pub mod Copies
pub mod Drafts
pub mod Fits
pub mod Means
