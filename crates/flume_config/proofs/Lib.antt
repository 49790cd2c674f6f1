mod Placing
pub mod Making
pub mod AgentSteps
pub mod Outcomes
pub mod Asking
pub mod Mapping
