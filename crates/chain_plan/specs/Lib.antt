pub mod Builds
