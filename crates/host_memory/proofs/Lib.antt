mod Look
mod Files
mod Least
mod Listed
mod Replay
mod Paths
mod Tearing
mod Choosing
pub mod Rolling
mod Handing
mod Reading
