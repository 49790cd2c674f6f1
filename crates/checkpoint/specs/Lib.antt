pub mod Text
pub mod Newest
pub mod Right
pub mod Files
pub mod Says
pub mod Stands
