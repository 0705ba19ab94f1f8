mod Names
pub mod Records
mod Freed
mod Images
