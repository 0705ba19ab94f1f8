pub mod Slotted
pub mod Reading
