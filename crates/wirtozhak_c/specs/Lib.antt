pub mod Owned
pub mod Codes
pub mod Words
pub mod Holding
