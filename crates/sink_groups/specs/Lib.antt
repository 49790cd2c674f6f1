pub mod Ranking
pub mod Scheduler
pub mod Deliveries
pub mod Laws
pub mod Runs
