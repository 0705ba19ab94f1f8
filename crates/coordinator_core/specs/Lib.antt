pub mod Kept
pub mod Hearing
pub mod Acting
