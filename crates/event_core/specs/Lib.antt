pub mod Content
pub mod Journal
pub mod Numbers
pub mod Refusals
pub mod Texts
