pub mod Marks
pub mod Tying
pub mod Objects
pub mod Whole
