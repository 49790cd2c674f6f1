pub mod Words
pub mod Candidates
pub mod Rows
pub mod Components
pub mod Claims
pub mod Agents
