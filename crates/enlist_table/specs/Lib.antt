pub mod Refusals
pub mod Waiting
