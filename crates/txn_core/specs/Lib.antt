pub mod Did
pub mod Places
pub mod Sound
pub mod View
pub mod Noted
pub mod Counted
pub mod Shadow
pub mod Machine
