pub mod Patterns
pub mod Faults
pub mod Values
pub mod Plans
pub mod Laws
