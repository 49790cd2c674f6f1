pub mod Starting
pub mod Growing
pub mod Begun
pub mod Once
pub mod Fitting
