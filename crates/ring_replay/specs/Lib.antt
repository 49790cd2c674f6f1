pub mod Indexing
pub mod Folder
