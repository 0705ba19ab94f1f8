pub mod Accounts
pub mod Holding
pub mod Recovered
pub mod Whole
