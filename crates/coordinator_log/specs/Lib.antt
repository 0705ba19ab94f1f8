pub mod Spelling
pub mod Slots
pub mod Stop
pub mod State
pub mod Crash
