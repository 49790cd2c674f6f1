pub mod Opening
pub mod Laws
