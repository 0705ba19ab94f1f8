pub mod ReadInfo
pub mod ReadPieces
