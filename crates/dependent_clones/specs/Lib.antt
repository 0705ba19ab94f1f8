pub mod Refusals
pub mod Distinct
