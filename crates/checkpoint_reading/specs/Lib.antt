pub mod Fields
pub mod Reader
pub mod Laws
pub mod Logs
pub mod Draft
pub mod Opens
pub mod Newest
