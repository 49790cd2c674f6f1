pub mod LineSteps
pub mod PairSteps
pub mod Opened
pub mod TextParts
pub mod TableSteps
pub mod FirstFault
pub mod Encoded
