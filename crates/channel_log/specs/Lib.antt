pub mod Frames
pub mod Laws
pub mod PointerLaws
pub mod Pointers
pub mod Reader
pub mod Scan
pub mod Window
pub mod Writer
