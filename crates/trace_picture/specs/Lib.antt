pub mod Rows
pub mod Lanes
pub mod Crossings
pub mod Parties
pub mod Marks
pub mod OwnSent
