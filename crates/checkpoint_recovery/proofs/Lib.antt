pub mod Elsewhere
pub mod Readings
pub mod SomeReading
pub mod Fronts
pub mod Kept
