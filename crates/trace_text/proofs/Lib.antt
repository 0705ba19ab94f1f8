pub mod ReadLines
pub mod ReadTraces
