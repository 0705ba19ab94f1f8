pub mod Half
pub mod Waits
pub mod Linked
pub mod Taken
pub mod Branches
