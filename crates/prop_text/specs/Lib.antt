pub mod Lines
pub mod Pairs
pub mod Winners
pub mod Views
pub mod Table
pub mod Reads
