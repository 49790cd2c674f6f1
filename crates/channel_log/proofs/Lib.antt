pub mod Begins
pub mod Bytes
mod Calls
pub mod Contents
pub mod Loads
pub mod LowBytes
pub mod Every
pub mod Entering
pub mod Given
pub mod Keeping
mod Opening
mod Pending
pub mod Pointed
pub mod Pointing
pub mod ReadOn
pub mod Remaining
mod Standing
