pub mod Searching
pub mod DatePieces
pub mod DateTexts
pub mod Serializing
