pub mod Geometry
pub mod Pieces
pub mod Labels
pub mod Drawn
pub mod Columns
pub mod Style
pub mod Page
