pub mod Answers
pub mod Grammar
pub mod Record
pub mod Laws
pub mod Outlines
pub mod Pointers
