pub mod Chaining
pub mod GoingOn
