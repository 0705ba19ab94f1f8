pub mod Holding
pub mod TwoStores
