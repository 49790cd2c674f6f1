pub mod Files
pub mod Folders
pub mod Places
pub mod Opened
pub mod Checked
pub mod PutsStand
pub mod CheckPlaces
pub mod Ends
