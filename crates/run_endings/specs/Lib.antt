pub mod Finished
pub mod Finishing
pub mod Highest
pub mod Stops
