pub mod Found
pub mod Ballots
pub mod Wires
pub mod Seats
pub mod Standings
pub mod Reading
pub mod Worlds
