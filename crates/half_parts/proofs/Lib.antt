pub mod Writing
pub mod Lists
pub mod Waiters
pub mod Rows
pub mod Links
pub mod Lost
pub mod Notes
pub mod Waiting
pub mod Following
pub mod Due
pub mod Deciding
mod Lone
