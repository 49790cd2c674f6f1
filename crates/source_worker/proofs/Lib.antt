mod Mended
mod Works
pub mod Nexts
