pub mod Rising
pub mod Merging
pub mod LiveWrites
pub mod Tallying
pub mod Placing
pub mod Folding
pub mod Undoing
