pub mod Counted
pub mod LogEvents
pub mod Marks
pub mod Reopening
pub mod Runs
