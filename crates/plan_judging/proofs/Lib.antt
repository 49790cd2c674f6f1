mod Clashes
mod Onces
pub mod CommaSteps
pub mod Joins
pub mod WordSteps
