pub mod Tickets
pub mod Transactions
pub mod Fronts
pub mod Rows
pub mod Ports
pub mod PortRows
pub mod Images
