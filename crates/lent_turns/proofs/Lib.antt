pub mod Causes
pub mod Standing
