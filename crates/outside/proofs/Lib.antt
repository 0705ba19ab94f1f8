pub mod Pieces
pub mod Rising
pub mod Writing
pub mod Sheets
