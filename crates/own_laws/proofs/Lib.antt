pub mod Heeded
pub mod SettledRuns
pub mod Unpromoted
pub mod Told
