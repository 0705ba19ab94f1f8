mod Rows
pub mod Holdings
pub mod Settling
pub mod Changing
pub mod Ending
pub mod Stepping
pub mod Finishing
pub mod Leaving
pub mod OneByOne
