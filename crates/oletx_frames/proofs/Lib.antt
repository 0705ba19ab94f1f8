pub mod Faults
pub mod Fronts
pub mod Identifiers
pub mod Pieces
pub mod Puts
pub mod Streams
pub mod Telling
