pub mod Joining
pub mod Laying
pub mod Listing
pub mod Spooling
