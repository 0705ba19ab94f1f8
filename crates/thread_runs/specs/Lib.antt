pub mod Contexts
pub mod Gathering
pub mod Run
pub mod Threads
