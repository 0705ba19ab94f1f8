pub mod Orders
pub mod Ranges
