pub mod Words
pub mod Options
pub mod Commands
pub mod Statuses
pub mod Unopened
pub mod Report
pub mod Laws
