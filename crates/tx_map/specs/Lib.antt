pub mod Order
pub mod Live
pub mod Puts
pub mod Notes
pub mod Room
pub mod Pairs
pub mod Kept
pub mod Laws
