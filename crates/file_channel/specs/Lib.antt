pub mod Placed
pub mod Laid
pub mod Stepped
pub mod Stands
pub mod Opened
pub mod Images
pub mod Pruned
