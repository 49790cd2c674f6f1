pub mod Laid
pub mod Pruned
pub mod Naming
pub mod Needed
